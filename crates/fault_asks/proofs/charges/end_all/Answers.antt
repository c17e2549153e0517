use Rattle.part_model.specs.JobRows.{book_in}
use Rattle.fault_asks.proofs.Books.{ended_more}
use Rattle.fault_asks.proofs.charges.end_all.Goals as goal
use Rattle.part_moves.proofs.ItemsLeft.{none_ended}

pub loop-job-init : goal.loop-job-init
loop-job-init c = none_ended (book_in c.args.book.now.value)

pub loop-job-preserved : goal.loop-job-preserved
loop-job-preserved c = ended_more c.args.jobs.now c.loop-job.job-index _ (book_in c.args.book.now.value) (book_in c.loop-job.book.value) (book_in c.end.new.self.value) c.loop-job-test.true c.loop-job.invariant c.end.ensures.book
