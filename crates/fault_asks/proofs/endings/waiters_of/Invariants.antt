-- The entries that wait for the recalls of the items that the loop has passed were added.
use Rattle.std.proofs.Common.{◌≡◌, take}
use Rattle.part_model.specs.JobRows.{book_in}
use Rattle.part_moves.specs.Flags.{job_files}
use Rattle.part_moves.specs.Waiting.{waits_for_all}
use Rattle.fault_asks.proofs.endings.waiters_of.Given as goal

abbrev pub invariant-loop-job : goal.invariant-loop-job
invariant-loop-job l = l.pairs.items ≡ waits_for_all (book_in l.book.value).recall (job_files (take l.job-index l.jobs))
