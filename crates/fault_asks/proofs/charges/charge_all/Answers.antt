use Rattle.std.proofs.Common.{arith}
use Rattle.part_model.specs.JobRows.{book_in}
use Rattle.fault_asks.proofs.Books.{charged_more, few_charges, none_charged}
use Rattle.fault_asks.proofs.charges.charge_all.Goals as goal

pub loop-job-init : goal.loop-job-init
loop-job-init c = record { charged = none_charged c.args.charge (book_in c.args.book.now.value); room = (let room = c.requires.room in omega arith) }

pub charge-requires-clause-few : goal.charge-requires-clause-few
charge-requires-clause-few c =
    few_charges c.args.jobs.now c.loop-job.job-index _ c.args.charge (book_in c.args.book.now.value) (book_in c.loop-job.book.value) c.loop-job-test.true c.requires.once c.loop-job.invariant.charged c.requires.few

pub loop-job-preserved : goal.loop-job-preserved
loop-job-preserved c = record {
  charged =
      charged_more c.args.jobs.now c.loop-job.job-index _ c.args.charge (book_in c.args.book.now.value) (book_in c.loop-job.book.value) (book_in c.charge.new.self.value) c.loop-job-test.true c.requires.once c.loop-job.invariant.charged
      c.charge.ensures.book;
  room = (let was = c.loop-job.invariant.room in let left = c.charge.ensures.room in omega arith);
}
