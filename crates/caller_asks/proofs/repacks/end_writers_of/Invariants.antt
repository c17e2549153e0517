-- The items of the copy are GONE in the repacks that the walk has passed.
use Rattle.repack_book.specs.NamedRepacks.{repacks_of}
use Rattle.repack_book.specs.NamedRepacks.{NamesAgree}
use Rattle.caller_asks.proofs.Writers.{IsWalked, ahead}
use Rattle.caller_asks.proofs.repacks.end_writers_of.Given as goal

abbrev pub invariant-loop-next : goal.invariant-loop-next
invariant-loop-next l = IsWalked l.file l.copy (repacks_of l.initial.repacks) (repacks_of l.repacks) l.next × NamesAgree l.repacks l.initial.repacks

abbrev pub decreases-loop-next : goal.decreases-loop-next
decreases-loop-next l = ahead l.next
