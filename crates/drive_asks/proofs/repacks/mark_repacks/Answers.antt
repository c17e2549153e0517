use Rattle.std.proofs.Common.{◌∙◌, refl}
use Rattle.repack_book.specs.NamedRepacks.{repacks_of}
use Rattle.drive_asks.proofs.MarkedItems.{next_marked}
use Rattle.drive_asks.proofs.repacks.mark_repacks.Goals as goal

pub loop-id-init : goal.loop-id-init
loop-id-init c = record { marked = λ k. refl; named = λ k. refl }

pub loop-id-preserved : goal.loop-id-preserved
loop-id-preserved c = record {
  marked = next_marked c.args.ids.now c.loop-id.id-index _ c.args.file c.args.copies (repacks_of c.args.repacks.now) (repacks_of c.loop-id.repacks) (repacks_of c.mark_repack.new.repacks) c.loop-id-test.true c.loop-id.invariant.marked c.mark_repack.ensures.repacks;
  named = λ k. c.mark_repack.ensures.names k ∙ c.loop-id.invariant.named k;
}
