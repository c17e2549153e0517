use Rattle.part_model.specs.JobRows.{book_in}
use Rattle.part_moves.proofs.WaitLists.{waiters_more}
use Rattle.fault_asks.proofs.endings.waiters_of.Goals as goal

pub loop-job-preserved : goal.loop-job-preserved
loop-job-preserved c =
    waiters_more (book_in c.args.book.now.value).recall c.args.jobs.now c.loop-job.job-index _ c.loop-job.pairs.items c.add_waiters.new.out.items c.loop-job-test.true c.loop-job.invariant c.in_ok-add_waiters.ensures
