-- The recalls that the loop has passed have left.
use Rattle.std.proofs.Common.{◌≡◌, ◌≤◌, ℕ, length, take}
use Rattle.part_model.specs.Queues.{drop_jobs, lines_in}
use Rattle.tape_asks.proofs.leaving.leave_reads.Given as goal

abbrev pub invariant-loop-job : goal.invariant-loop-job
invariant-loop-job l = record {
  lines : (k : ℕ) → lines_in l.recalls.value k ≡ drop_jobs (take l.job-index l.jobs) (lines_in l.initial.recalls.value) k;
  keys : length l.recalls.value ≡ length l.initial.recalls.value;
  room : l.initial.recalls.room ≤ l.recalls.room;
}
