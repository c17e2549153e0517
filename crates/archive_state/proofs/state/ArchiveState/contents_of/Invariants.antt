-- There is a content for each item that the loop has passed.
use Rattle.std.proofs.Common.{◌≡◌, take}
use Rattle.std.specs.Prelude.{map}
use Rattle.cta_model.specs.declared.asks.Item.{Item}
use Rattle.cta_model.specs.Hands.{sum_of_blob}
use Rattle.archive_state.proofs.state.ArchiveState.contents_of.Given as goal

abbrev pub invariant-loop-item : goal.invariant-loop-item
invariant-loop-item g l = map sum_of_blob l.blobs.items ≡ map (λ (i : Item). i.sum) (take l.item-index l.items)
