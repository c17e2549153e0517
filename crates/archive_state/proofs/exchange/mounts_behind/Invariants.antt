-- The open mounts behind the entries that the loop has passed.
use Rattle.std.proofs.Common.{◌≡◌, take}
use Rattle.cta_model.specs.Mounts.{open_mounts}
use Rattle.cta_model.specs.Newest.{history_in}
use Rattle.archive_state.proofs.exchange.mounts_behind.Given as goal

abbrev pub invariant-loop-at : goal.invariant-loop-at
invariant-loop-at l = l.mounts.items ≡ open_mounts (history_in (take l.at l.entries))
