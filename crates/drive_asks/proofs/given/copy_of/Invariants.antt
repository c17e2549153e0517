-- The items that the loop has passed were copied, and there is room for exactly all.
use Rattle.std.proofs.Common.{◌≡◌, length, take, vec_len}
use Rattle.std.specs.Prelude.{vec_capacity}
use Rattle.drive_asks.proofs.given.copy_of.Given as goal

abbrev pub invariant-loop-item : goal.invariant-loop-item
invariant-loop-item l = record { copied : l.copy.items ≡ take l.item-index l.items; count : vec_len l.copy ≡ l.item-index; room : vec_capacity l.copy ≡ length l.items }
