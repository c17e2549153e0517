-- The list has the numbers that the loop has passed, and room for the others.
use Rattle.std.proofs.Common.{◌≡◌, ◌+◌, ◌≤◌, ◌++◌, length, take}
use Rattle.part_moves.proofs.lists.add_numbers.Given as goal

abbrev pub invariant-loop-number : goal.invariant-loop-number
invariant-loop-number l = (l.out.items ≡ l.initial.out.items ++ take l.number-index l.numbers) × (length l.numbers ≤ l.out.room + l.number-index)
