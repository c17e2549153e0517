-- The recalls of the files behind the loop's place are queued, and there is room for the others.
use Rattle.std.proofs.Common.{◌≡◌, ◌≤◌, ℕ, drop, length}
use Rattle.part_model.specs.Queues.{lines_in}
use Rattle.caller_asks.specs.Wanted.{add_recalls}
use Rattle.caller_asks.proofs.births.queue_all.Given as goal

abbrev pub invariant-loop-at : goal.invariant-loop-at
invariant-loop-at l = record {
  lines : (k : ℕ) → lines_in l.recalls.value k ≡ add_recalls l.site l.history.value l.tapes.value l.number (drop l.at l.files) (lines_in l.initial.recalls.value) k;
  keys : length l.recalls.value ≡ length l.initial.recalls.value;
  room : l.at ≤ l.recalls.room;
}
