-- The jobs of the copies that the loop has passed were born.
use Rattle.std.proofs.Common.{◌≤◌, ◌+◌, length, take}
use Rattle.part_model.specs.JobBook.{TellSame, bear_jobs}
use Rattle.part_model.specs.JobRows.{book_in}
use Rattle.drive_asks.specs.Reading.{born_of}
use Rattle.drive_asks.proofs.births.bear_all.Given as goal

abbrev pub invariant-loop-copy : goal.invariant-loop-copy
invariant-loop-copy l = record {
  born : TellSame (book_in l.book.value) (bear_jobs (born_of l.number l.file (take l.copy-index l.copies)) l.number (book_in l.initial.book.value));
  room : length l.copies ≤ l.book.room + l.copy-index;
}
