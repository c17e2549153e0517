-- An item of this fSeq comes behind those that the loop has passed.
use Rattle.std.proofs.Common.{◌≡◌, ◌++◌, drop, take}
use Rattle.cta_model.specs.declared.asks.Item.{Item}
use Rattle.cta_model.specs.Batches.{insert_by_fseq}
use Rattle.part_answers.proofs.batch_reads.place_for.Given as goal

abbrev pub invariant-loop-at : goal.invariant-loop-at
invariant-loop-at l = (i : Item) → i.fseq ≡ l.fseq → insert_by_fseq i l.items ≡ take l.at l.items ++ insert_by_fseq i (drop l.at l.items)
