-- The jobs of the items that the loop has passed are added.
use Rattle.std.proofs.Common.{◌≡◌, ◌++◌, take}
use Rattle.cta_model.specs.Mounts.{item_jobs}
use Rattle.archive_state.proofs.claimed_jobs.add_items.Given as goal

abbrev pub invariant-loop-item : goal.invariant-loop-item
invariant-loop-item l = l.jobs.items ≡ l.initial.jobs.items ++ item_jobs (take l.item-index l.items)
