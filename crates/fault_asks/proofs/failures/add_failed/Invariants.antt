-- The copies behind the loop's place that have no place have failed, and there is room for the others.
use Rattle.std.proofs.Common.{◌≡◌, ◌≤◌, ◌+◌, drop, length}
use Rattle.part_model.specs.Failed.{added_copies}
use Rattle.fault_asks.specs.Failing.{jobs_unplaced}
use Rattle.fault_asks.proofs.failures.add_failed.Given as goal

abbrev pub invariant-loop-at : goal.invariant-loop-at
invariant-loop-at l = record {
  value : l.failed.value ≡ added_copies (jobs_unplaced l.tapes.value (drop l.at l.jobs)) l.initial.failed.value;
  room : l.initial.failed.room + l.at ≤ l.failed.room + length l.jobs;
}
