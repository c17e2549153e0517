-- There is an item for each job from this place on.
use Rattle.std.proofs.Common.{◌≡◌, ◌≤◌, drop, length}
use Rattle.cta_site.specs.Lookups.{copies_of}
use Rattle.cta_model.specs.Files.{path_of, sum_of}
use Rattle.part_laws.specs.Batches.{read_told}
use Rattle.part_laws.specs.Files.{fseq_told}
use Rattle.part_answers.proofs.batch_reads.read_batch.Given as goal

abbrev pub invariant-loop-at : goal.invariant-loop-at
invariant-loop-at l = record {
  items : l.items.items ≡ read_told (sum_of l.history.value) (λ f. fseq_told l.table.value l.tape f (copies_of l.site (path_of l.history.value f))) (drop l.at l.jobs);
  within : l.at ≤ length l.jobs;
}

abbrev pub decreases-loop-at : goal.decreases-loop-at
decreases-loop-at l = l.at
