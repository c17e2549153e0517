-- The entry waits for the recalls of the files behind the loop's place, and there is room for the others.
use Rattle.std.proofs.Common.{◌≤◌, ◌+◌, drop, length}
use Rattle.part_model.specs.JobBook.{TellSame, subscribe_files}
use Rattle.part_model.specs.JobRows.{book_in}
use Rattle.tape_asks.proofs.births.join_all.Given as goal

abbrev pub invariant-loop-at : goal.invariant-loop-at
invariant-loop-at l = record {
  joined : TellSame (book_in l.book.value) (subscribe_files (drop l.at l.files) l.number (book_in l.initial.book.value));
  room : l.initial.book.room + l.at ≤ l.book.room + length l.files;
}
