-- The first copy from the place of the loop on is the first one that is sought.
use Rattle.std.proofs.Common.{◌-◌, ℕ, Some}
use Rattle.std.specs.Prelude.{Option}
use Rattle.cta_model.specs.History.{has_number}
use Rattle.part_model.specs.Repacks.{reading_copies}
use Rattle.repack_book.specs.Walks.{IsFirstFrom}
use Rattle.repack_book.proofs.row.RepackRow.reading.Given as goal

abbrev pub invariant-loop-copy : goal.invariant-loop-copy
invariant-loop-copy l = (o : Option ℕ) → IsFirstFrom (λ c. has_number c (reading_copies l.file (Some l.self.repack))) l.at o → IsFirstFrom (λ c. has_number c (reading_copies l.file (Some l.self.repack))) l.from o

abbrev pub decreases-loop-copy : goal.decreases-loop-copy
decreases-loop-copy l = 255 - l.at
