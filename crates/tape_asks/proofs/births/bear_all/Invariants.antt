-- The jobs behind the loop's place were born, and there is room for the others.
use Rattle.std.proofs.Common.{◌≤◌, ◌+◌, drop, length}
use Rattle.part_model.specs.JobBook.{TellSame, bear_jobs}
use Rattle.part_model.specs.JobRows.{book_in}
use Rattle.tape_asks.proofs.births.bear_all.Given as goal

abbrev pub invariant-loop-at : goal.invariant-loop-at
invariant-loop-at l = record {
  born : TellSame (book_in l.book.value) (bear_jobs (drop l.at l.jobs) l.number (book_in l.initial.book.value));
  room : l.initial.book.room + l.at ≤ l.book.room + length l.jobs;
}
