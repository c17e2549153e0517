-- The jobs behind the loop's place are queued, and there is room for the others.
use Rattle.std.proofs.Common.{◌≡◌, ◌≤◌, ℕ, drop, length}
use Rattle.cta_model.specs.declared.asks.Direction.TheVariants as direction
use Rattle.part_model.specs.Queues.{lines_in}
use Rattle.part_laws.specs.Lines.{add_jobs}
use Rattle.fault_asks.proofs.lines.queue_all.Given as goal

abbrev pub invariant-loop-at : goal.invariant-loop-at
invariant-loop-at l = record {
  lines : (k : ℕ) → lines_in l.pools.value k ≡ add_jobs l.site l.history.value direction.Archive (drop l.at l.jobs) (lines_in l.initial.pools.value) k;
  keys : length l.pools.value ≡ length l.initial.pools.value;
  room : l.at ≤ l.pools.room;
}
