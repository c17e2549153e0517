-- The job goes before none that the loop has passed.
use Rattle.std.proofs.Common.{◌≡◌, ◌++◌, take, drop}
use Rattle.part_model.specs.Order.{insert_job}
use Rattle.archive_state.proofs.claimed_jobs.place_of.Given as goal

abbrev pub invariant-loop-at : goal.invariant-loop-at
invariant-loop-at l = insert_job l.job l.jobs ≡ take l.at l.jobs ++ insert_job l.job (drop l.at l.jobs)
