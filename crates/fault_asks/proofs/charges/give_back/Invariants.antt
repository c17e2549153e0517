-- The claims of the jobs that the loop has passed have ended.
use Rattle.std.proofs.Common.{◌≤◌, take}
use Rattle.part_model.specs.JobBook.{TellSame, give_back_jobs}
use Rattle.part_model.specs.JobRows.{book_in}
use Rattle.fault_asks.proofs.charges.give_back.Given as goal

abbrev pub invariant-loop-job : goal.invariant-loop-job
invariant-loop-job l = record {
  given : TellSame (book_in l.book.value) (give_back_jobs (take l.job-index l.jobs) (book_in l.initial.book.value));
  room : l.initial.book.room ≤ l.book.room;
}
