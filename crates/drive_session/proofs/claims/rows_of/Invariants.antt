use Rattle.std.proofs.Common.{◌≡◌, take}
use Rattle.cta_model.specs.Mounts.{item_jobs}
use Rattle.drive_session.proofs.claims.rows_of.Given as goal

abbrev pub invariant-loop-item : goal.invariant-loop-item
invariant-loop-item l = l.jobs.items ≡ item_jobs (take l.item-index l.items)
