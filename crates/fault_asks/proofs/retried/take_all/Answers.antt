use Rattle.fault_asks.proofs.JobLoops.{removed_first, removed_more}
use Rattle.fault_asks.proofs.retried.take_all.Goals as goal

pub loop-job-init : goal.loop-job-init
loop-job-init c = removed_first c.args.failed.now.value

pub loop-job-preserved : goal.loop-job-preserved
loop-job-preserved c = removed_more c.args.jobs.now c.loop-job.job-index _ c.args.failed.now.value c.loop-job.failed.value c.take-there.new.self.value c.loop-job-test.true c.loop-job.invariant c.take-there.ensures.value
