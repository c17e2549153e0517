-- The live recalls behind the loop's place are queued, and there is room for the others.
use Rattle.std.proofs.Common.{◌≡◌, ◌≤◌, ◌+◌, ℕ, drop, length}
use Rattle.cta_model.specs.declared.asks.Direction.TheVariants as direction
use Rattle.part_model.specs.JobRows.{book_in}
use Rattle.part_model.specs.Queues.{lines_in}
use Rattle.part_laws.specs.Lines.{line_of}
use Rattle.fault_asks.specs.Failing.{add_by, jobs_live}
use Rattle.fault_asks.specs.Reading.{source_in}
use Rattle.fault_asks.proofs.reads_back.queue_reads.Given as goal

abbrev pub invariant-loop-at : goal.invariant-loop-at
invariant-loop-at l = record {
  lines : (k : ℕ) → lines_in l.recalls.value k ≡ add_by (source_in l.tapes.value (book_in l.book.value)) (line_of l.site l.history.value direction.Retrieve) (jobs_live (book_in l.book.value) (drop l.at l.jobs)) (lines_in l.initial.recalls.value) k;
  keys : length l.recalls.value ≡ length l.initial.recalls.value;
  room : l.initial.recalls.room + l.at ≤ l.recalls.room + length l.jobs;
}
