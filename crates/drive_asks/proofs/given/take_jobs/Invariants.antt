-- The jobs of the items that the loop has passed were taken out.
use Rattle.std.proofs.Common.{◌≡◌, ℕ, length, take}
use Rattle.cta_model.specs.Mounts.{item_jobs}
use Rattle.part_model.specs.Queues.{lines_in, taken_out}
use Rattle.drive_asks.proofs.given.take_jobs.Given as goal

abbrev pub invariant-loop-item : goal.invariant-loop-item
invariant-loop-item l = record {
  lines : (k : ℕ) → lines_in l.queues.value k ≡ taken_out l.key (item_jobs (take l.item-index l.items)) (lines_in l.initial.queues.value) k;
  keys : length l.queues.value ≡ length l.initial.queues.value;
}
