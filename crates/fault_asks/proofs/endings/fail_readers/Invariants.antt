-- The items of the files have failed in the repacks that the loop has passed.
use Rattle.std.proofs.Common.{take}
use Rattle.cta_model.specs.declared.reports.ItemState.TheVariants as item
use Rattle.part_model.specs.Repacks.{RepacksAgree, set_states}
use Rattle.repack_book.specs.NamedRepacks.{NamesAgree, repacks_of}
use Rattle.fault_asks.specs.Reading.{pair_targets}
use Rattle.fault_asks.proofs.endings.fail_readers.Given as goal

abbrev pub invariant-loop-pair : goal.invariant-loop-pair
invariant-loop-pair l = record {
  failed : RepacksAgree (repacks_of l.repacks) (set_states item.Failed (pair_targets (take l.pair-index l.pairs)) (repacks_of l.initial.repacks));
  named : NamesAgree l.repacks l.initial.repacks;
}
