-- The items of the file are WRITING in the repacks that the loop has passed.
use Rattle.std.proofs.Common.{take}
use Rattle.cta_model.specs.declared.reports.ItemState.TheVariants as item
use Rattle.part_model.specs.Repacks.{RepacksAgree, set_states}
use Rattle.repack_book.specs.NamedRepacks.{NamesAgree, repacks_of}
use Rattle.drive_asks.specs.Reading.{all_targets}
use Rattle.drive_asks.proofs.repacks.mark_repacks.Given as goal

abbrev pub invariant-loop-id : goal.invariant-loop-id
invariant-loop-id l = record {
  marked : RepacksAgree (repacks_of l.repacks) (set_states item.Writing (all_targets (take l.id-index l.ids) l.file l.copies) (repacks_of l.initial.repacks));
  named : NamesAgree l.repacks l.initial.repacks;
}
