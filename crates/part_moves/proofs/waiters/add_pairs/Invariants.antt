-- The entries that the loop has passed were added.
use Rattle.std.proofs.Common.{◌≡◌, ◌++◌, take}
use Rattle.part_moves.specs.Waiting.{with_file}
use Rattle.part_moves.proofs.waiters.add_pairs.Given as goal

abbrev pub invariant-loop-id : goal.invariant-loop-id
invariant-loop-id l = l.out.items ≡ l.initial.out.items ++ with_file l.file (take l.id-index l.ids)
