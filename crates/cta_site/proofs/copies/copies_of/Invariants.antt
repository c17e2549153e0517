-- The items that the loop has passed were copied, and there is room for exactly all.
use Rattle.std.proofs.Common.{◌≡◌, length, take, vec_len}
use Rattle.std.specs.Prelude.{vec_capacity}
use Rattle.cta_site.proofs.copies.copies_of.Given as goal

abbrev pub invariant-loop-item : goal.invariant-loop-item
invariant-loop-item g l = record { copied : l.copies.items ≡ take l.item-index l.items; count : vec_len l.copies ≡ l.item-index; room : vec_capacity l.copies ≡ length l.items }
