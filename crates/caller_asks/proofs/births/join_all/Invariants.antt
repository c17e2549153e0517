-- The request waits for the recalls of the files that the loop has passed, and there is room for the others.
use Rattle.std.proofs.Common.{◌≤◌, ◌+◌, take}
use Rattle.part_model.specs.JobBook.{TellSame, subscribe_files}
use Rattle.part_model.specs.JobRows.{book_in}
use Rattle.caller_asks.proofs.births.join_all.Given as goal

abbrev pub invariant-loop-file : goal.invariant-loop-file
invariant-loop-file l = record {
  joined : TellSame (book_in l.book.value) (subscribe_files (take l.file-index l.files) l.id (book_in l.initial.book.value));
  room : l.initial.book.room ≤ l.book.room + l.file-index;
}
