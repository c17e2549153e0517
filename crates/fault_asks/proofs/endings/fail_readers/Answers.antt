use Rattle.std.proofs.Common.{◌∙◌, refl}
use Rattle.repack_book.specs.NamedRepacks.{repacks_of}
use Rattle.fault_asks.proofs.EndedItems.{next_failed}
use Rattle.fault_asks.proofs.endings.fail_readers.Goals as goal

pub loop-pair-init : goal.loop-pair-init
loop-pair-init c = record { failed = λ k. refl; named = λ k. refl }

pub loop-pair-preserved : goal.loop-pair-preserved
loop-pair-preserved c = record {
  failed = next_failed c.args.pairs.now c.loop-pair.pair-index _ (repacks_of c.args.repacks.now) (repacks_of c.loop-pair.repacks) (repacks_of c.fail_items.new.repacks) c.loop-pair-test.true c.loop-pair.invariant.failed c.fail_items.ensures.repacks;
  named = λ k. c.fail_items.ensures.names k ∙ c.loop-pair.invariant.named k;
}
