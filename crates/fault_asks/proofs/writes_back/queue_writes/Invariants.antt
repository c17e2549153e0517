-- The live jobs behind the loop's place are queued, and there is room for the others.
use Rattle.std.proofs.Common.{◌≡◌, ◌≤◌, ◌+◌, ℕ, drop, length}
use Rattle.cta_model.specs.declared.asks.Direction.TheVariants as direction
use Rattle.cta_model.specs.Queues.{key_of}
use Rattle.part_model.specs.JobRows.{book_in}
use Rattle.part_model.specs.Queues.{lines_in}
use Rattle.part_laws.specs.Lines.{line_of}
use Rattle.fault_asks.specs.Failing.{add_by, jobs_live}
use Rattle.fault_asks.proofs.writes_back.queue_writes.Given as goal

abbrev pub invariant-loop-at : goal.invariant-loop-at
invariant-loop-at l = record {
  lines : (k : ℕ) → lines_in l.pools.value k ≡ add_by (key_of l.site l.history.value) (line_of l.site l.history.value direction.Archive) (jobs_live (book_in l.book.value) (drop l.at l.jobs)) (lines_in l.initial.pools.value) k;
  keys : length l.pools.value ≡ length l.initial.pools.value;
  room : l.initial.pools.room + l.at ≤ l.pools.room + length l.jobs;
}
