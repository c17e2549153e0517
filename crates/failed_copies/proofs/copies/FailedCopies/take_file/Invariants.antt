-- What is left of the other files is what was there of them, and fewer copies are left with each that leaves.
use Rattle.std.proofs.Common.{◌≡◌, ◌≤◌, Some, length}
use Rattle.part_model.specs.Failed.{removed_file}
use Rattle.failed_copies.proofs.copies.FailedCopies.take_file.Given as goal

abbrev pub invariant-loop-job : goal.invariant-loop-job
invariant-loop-job l = record {
  others : removed_file (Some l.file) l.self.value ≡ removed_file (Some l.file) l.initial.self.value;
  room : l.initial.self.room ≤ l.self.room;
}

abbrev pub decreases-loop-job : goal.decreases-loop-job
decreases-loop-job l = length l.self.value
