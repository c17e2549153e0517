-- There is an item for each job that the loop has passed.
use Rattle.std.proofs.Common.{◌≡◌, take}
use Rattle.cta_model.specs.Batches.{written_items}
use Rattle.part_answers.proofs.batch_writes.written_batch.Given as goal

abbrev pub invariant-loop-at : goal.invariant-loop-at
invariant-loop-at l = l.items.items ≡ written_items l.history.value l.first (take l.at l.jobs)
