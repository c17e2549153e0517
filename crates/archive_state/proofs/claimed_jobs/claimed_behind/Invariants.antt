-- The jobs that the mount claims behind the entries that the loop has passed.
use Rattle.std.proofs.Common.{◌≡◌, take}
use Rattle.cta_model.specs.Mounts.{claimed_items, item_jobs}
use Rattle.cta_model.specs.Newest.{history_in}
use Rattle.archive_state.proofs.claimed_jobs.claimed_behind.Given as goal

abbrev pub invariant-loop-at : goal.invariant-loop-at
invariant-loop-at l = l.jobs.items ≡ item_jobs (claimed_items (history_in (take l.at l.entries)) l.mount)
