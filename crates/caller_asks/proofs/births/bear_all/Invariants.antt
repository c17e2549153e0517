-- The recalls of the files that the loop has passed were born, and there is room for the others.
use Rattle.std.proofs.Common.{◌≤◌, ◌+◌, length, take}
use Rattle.part_laws.specs.Births.{recalls_of}
use Rattle.part_model.specs.JobBook.{TellSame, bear_jobs}
use Rattle.part_model.specs.JobRows.{book_in}
use Rattle.caller_asks.proofs.births.bear_all.Given as goal

abbrev pub invariant-loop-file : goal.invariant-loop-file
invariant-loop-file l = record {
  born : TellSame (book_in l.book.value) (bear_jobs (recalls_of l.number (take l.file-index l.files)) l.number (book_in l.initial.book.value));
  room : length l.files ≤ l.book.room + l.file-index;
}
