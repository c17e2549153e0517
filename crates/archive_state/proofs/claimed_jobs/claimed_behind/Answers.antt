use Rattle.archive_state.proofs.ItemJobs.{jobs_next}
use Rattle.archive_state.proofs.claimed_jobs.claimed_behind.Goals as goal

pub loop-at-preserved : goal.loop-at-preserved
loop-at-preserved c = jobs_next c.args.entries.now c.loop-at.at c.args.mount c.index-entries-at.result c.loop-at.jobs.items c.move_jobs.new.jobs.items c.loop-at-test.true c.index-entries-at.is c.loop-at.invariant c.in_ok-move_jobs.ensures
