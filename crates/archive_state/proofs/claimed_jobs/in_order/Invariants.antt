-- The jobs that the loop has passed are in order.
use Rattle.std.proofs.Common.{◌≡◌, [], take}
use Rattle.std.specs.Prelude.{reverse}
use Rattle.part_model.specs.Order.{insert_jobs}
use Rattle.archive_state.proofs.claimed_jobs.in_order.Given as goal

abbrev pub invariant-loop-job : goal.invariant-loop-job
invariant-loop-job l = l.sorted.items ≡ insert_jobs (reverse (take l.job-index l.jobs)) []
