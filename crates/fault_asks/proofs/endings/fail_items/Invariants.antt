-- With the copies that are left, all have failed.
use Rattle.cta_model.specs.declared.reports.ItemState.TheVariants as item
use Rattle.part_model.specs.Repacks.{RepacksAgree, set_states}
use Rattle.repack_book.specs.NamedRepacks.{NamesAgree, repacks_of}
use Rattle.fault_asks.specs.Reading.{targets_down}
use Rattle.fault_asks.proofs.endings.fail_items.Given as goal

abbrev pub invariant-loop-copy : goal.invariant-loop-copy
invariant-loop-copy l = record {
  repacks : RepacksAgree (set_states item.Failed (targets_down l.id l.file l.copy) (repacks_of l.repacks)) (set_states item.Failed (targets_down l.id l.file l.copies) (repacks_of l.initial.repacks));
  named : NamesAgree l.repacks l.initial.repacks;
}
