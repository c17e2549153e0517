-- The files that the loop has passed are at their places, and no other has one.
use Rattle.std.proofs.Common.{ℕ}
use Rattle.stage_book.specs.Places.{numbers_asked, place_in}
use Rattle.stage_book.proofs.Places.{IsPassed}
use Rattle.stage_book.proofs.row.places_of.Given as goal

abbrev pub invariant-loop-at : goal.invariant-loop-at
invariant-loop-at l = (f : ℕ) → IsPassed (numbers_asked l.files) l.at f (place_in l.places.entries f)
