-- There are as many errors as the loop has made.
use Rattle.std.proofs.Common.{◌≡◌, length}
use Rattle.part_moves.specs.Texts.{AreAll}
use Rattle.part_moves.proofs.error_lists.errors.Given as goal

abbrev pub invariant-loop : goal.invariant-loop
invariant-loop l = (length l.texts.items ≡ l.counter) × AreAll l.fn.error l.texts.items
