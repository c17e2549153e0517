-- The copy has ended in all repacks that the loop has passed, and their pins are taken off where they were the last.
use Rattle.std.proofs.Common.{◌≡◌, ◌-◌, ℕ, Option, Some, None}
use Rattle.repack_book.specs.NamedRepacks.{NamesAgree, repacks_of}
use Rattle.part_moves.proofs.Unpinning.{AreLeft}
use Rattle.part_moves.proofs.Writing.{AreEndedBelow}
use Rattle.part_moves.proofs.copies.end_copy.Given as goal

abbrev pub invariant-loop-next : goal.invariant-loop-next
invariant-loop-next l = record {
  done : AreEndedBelow l.state (repacks_of l.initial.repacks) (repacks_of l.repacks) l.job l.next;
  names : NamesAgree l.repacks l.initial.repacks;
  left : AreLeft (repacks_of l.initial.repacks) (repacks_of l.repacks) l.initial.buffer.held.value l.buffer.held.value;
  contents : l.buffer.contents ≡ l.initial.buffer.contents;
}

-- how many numbers are not passed
abbrev pub numbers_from : Option ℕ → ℕ
numbers_from None = 0
numbers_from (Some n) = 4294967296 - n

abbrev pub decreases-loop-next : goal.decreases-loop-next
decreases-loop-next l = numbers_from l.next
