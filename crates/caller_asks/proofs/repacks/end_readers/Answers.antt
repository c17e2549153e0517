use Rattle.std.proofs.Common.{◌∙◌, refl}
use Rattle.repack_book.specs.NamedRepacks.{repacks_of}
use Rattle.caller_asks.proofs.Items.{next_repack, none_of_repacks}
use Rattle.caller_asks.proofs.repacks.end_readers.Goals as goal

pub loop-id-init : goal.loop-id-init
loop-id-init c = (none_of_repacks c.args.file c.args.copies (repacks_of c.args.repacks.now), λ id. refl)

pub loop-id-preserved : goal.loop-id-preserved
loop-id-preserved c = (
  next_repack c.args.ids.now c.loop-id.id-index 0 c.args.file c.args.copies (repacks_of c.args.repacks.now) (repacks_of c.loop-id.repacks) (repacks_of c.end_items.new.repacks) c.loop-id-test.true c.loop-id.invariant.0 c.end_items.ensures.gone,
  λ id. c.end_items.ensures.names id ∙ c.loop-id.invariant.1 id,
)
