use Rattle.std.proofs.Common.{arith}
use Rattle.part_model.specs.JobRows.{book_in}
use Rattle.fault_asks.proofs.JobLoops.{born_more}
use Rattle.fault_asks.proofs.births.bear_all.Goals as goal
use Rattle.part_moves.proofs.NewJobs.{born_none}

pub loop-job-init : goal.loop-job-init
loop-job-init c = record { born = born_none c.args.number (book_in c.args.book.now.value); room = (let room = c.requires.room in omega arith) }

pub loop-job-preserved : goal.loop-job-preserved
loop-job-preserved c = record {
  born = born_more c.args.number c.args.jobs.now c.loop-job.job-index _ (book_in c.args.book.now.value) (book_in c.loop-job.book.value) (book_in c.born.new.self.value) c.loop-job-test.true c.requires.births c.loop-job.invariant.born c.born.ensures.book;
  room = (let was = c.loop-job.invariant.room in let left = c.born.ensures.room in omega arith);
}
