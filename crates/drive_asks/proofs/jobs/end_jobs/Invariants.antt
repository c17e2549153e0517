-- The jobs that the loop has passed have ended.
use Rattle.std.proofs.Common.{take}
use Rattle.part_model.specs.JobBook.{TellSame, end_jobs}
use Rattle.part_model.specs.JobRows.{book_in}
use Rattle.drive_asks.proofs.jobs.end_jobs.Given as goal

abbrev pub invariant-loop-job : goal.invariant-loop-job
invariant-loop-job l = TellSame (book_in l.book.value) (end_jobs (take l.job-index l.jobs) (book_in l.initial.book.value))
