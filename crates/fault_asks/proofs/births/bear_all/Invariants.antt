-- The jobs that the loop has passed were born, and there is room for the others.
use Rattle.std.proofs.Common.{◌≤◌, ◌+◌, length, take}
use Rattle.part_model.specs.JobBook.{TellSame, bear_jobs}
use Rattle.part_model.specs.JobRows.{book_in}
use Rattle.fault_asks.proofs.births.bear_all.Given as goal

abbrev pub invariant-loop-job : goal.invariant-loop-job
invariant-loop-job l = record {
  born : TellSame (book_in l.book.value) (bear_jobs (take l.job-index l.jobs) l.number (book_in l.initial.book.value));
  room : length l.jobs ≤ l.book.room + l.job-index;
}
