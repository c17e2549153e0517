use Rattle.std.proofs.Common.{◌∙◌}
use Rattle.cta_model.specs.declared.reports.ItemState.TheVariants as item
use Rattle.part_model.specs.Repacks.{set_states}
use Rattle.repack_book.specs.NamedRepacks.{repacks_of}
use Rattle.fault_asks.specs.Reading.{targets_down}
use Rattle.fault_asks.proofs.EndedItems.{next_down}
use Rattle.fault_asks.proofs.endings.fail_items.Goals as goal

pub loop-copy-preserved : goal.loop-copy-preserved
loop-copy-preserved c = record {
  repacks = next_down c.args.id c.args.file c.loop-copy.copy (repacks_of c.loop-copy.repacks) (repacks_of c.set.new.self) (set_states item.Failed (targets_down c.args.id c.args.file c.args.copies) (repacks_of c.args.repacks.now)) c.loop-copy-test.true c.loop-copy.invariant.repacks c.set.ensures.repacks;
  named = λ k. c.set.ensures.names k ∙ c.loop-copy.invariant.named k;
}
