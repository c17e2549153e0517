use Rattle.std.proofs.Common.{arith}
use Rattle.part_model.specs.JobRows.{book_in}
use Rattle.fault_asks.proofs.Books.{given_more}
use Rattle.fault_asks.proofs.charges.give_back.Goals as goal
use Rattle.part_moves.proofs.ItemsLeft.{none_given}

pub loop-job-init : goal.loop-job-init
loop-job-init c = record { given = none_given (book_in c.args.book.now.value); room = omega arith }

pub loop-job-preserved : goal.loop-job-preserved
loop-job-preserved c = record {
  given = given_more c.args.jobs.now c.loop-job.job-index _ (book_in c.args.book.now.value) (book_in c.loop-job.book.value) (book_in c.give_back.new.self.value) c.loop-job-test.true c.loop-job.invariant.given c.give_back.ensures.book;
  room = (let was = c.loop-job.invariant.room in let left = c.give_back.ensures.room in omega arith);
}
