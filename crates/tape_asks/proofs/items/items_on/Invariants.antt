-- The copies that the loop has passed, and the next.
use Rattle.tape_asks.proofs.ItemWalks.{IsPassed, fseqs_from}
use Rattle.tape_asks.proofs.items.items_on.Given as goal

abbrev pub invariant-loop-next : goal.invariant-loop-next
invariant-loop-next l = IsPassed l.tapes.value l.tape l.items.items l.next

abbrev pub decreases-loop-next : goal.decreases-loop-next
decreases-loop-next l = fseqs_from l.next
