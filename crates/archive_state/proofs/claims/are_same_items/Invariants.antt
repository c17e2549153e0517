-- The items that the loop has passed are the same.
use Rattle.std.proofs.Common.{◌≡◌, ◌<◌, ℕ, true}
use Rattle.std.specs.Prelude.{get_or}
use Rattle.cta_model.specs.declared.asks.Item.{Item}
use Rattle.cta_model.specs.Answers.{same_item}
use Rattle.archive_state.proofs.claims.are_same_items.Given as goal

abbrev pub invariant-loop-at : goal.invariant-loop-at
invariant-loop-at l = (k : ℕ) (d : Item) → k < l.at → same_item (get_or l.items k d) (get_or l.last k d) ≡ true
