-- The jobs that the loop has passed are charged once more.
use Rattle.std.proofs.Common.{◌≤◌, ◌+◌, length, take}
use Rattle.part_model.specs.JobBook.{TellSame, charge_jobs}
use Rattle.part_model.specs.JobRows.{book_in}
use Rattle.fault_asks.proofs.charges.charge_all.Given as goal

abbrev pub invariant-loop-job : goal.invariant-loop-job
invariant-loop-job l = record {
  charged : TellSame (book_in l.book.value) (charge_jobs (take l.job-index l.jobs) l.charge (book_in l.initial.book.value));
  room : length l.jobs ≤ l.book.room + l.job-index;
}
