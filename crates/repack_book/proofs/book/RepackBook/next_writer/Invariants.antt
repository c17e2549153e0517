-- The first writer behind the place of the loop is the one that is sought.
use Rattle.std.proofs.Common.{◌-◌, ◌+◌, ℕ}
use Rattle.std.specs.Prelude.{Option}
use Rattle.cta_model.specs.History.{has_number}
use Rattle.part_model.specs.Repacks.{writers_in}
use Rattle.repack_book.specs.NamedRepacks.{repacks_of}
use Rattle.repack_book.specs.Walks.{IsFirstFrom}
use Rattle.repack_book.proofs.book.RepackBook.next_writer.Given as goal

abbrev pub invariant-loop-holder : goal.invariant-loop-holder
invariant-loop-holder l = (o : Option ℕ) → IsFirstFrom (λ n. has_number n (writers_in (repacks_of l.self) l.file l.copy)) (l.at + 1) o → IsFirstFrom (λ n. has_number n (writers_in (repacks_of l.self) l.file l.copy)) (l.id + 1) o

abbrev pub decreases-loop-holder : goal.decreases-loop-holder
decreases-loop-holder l = 4294967295 - l.at
