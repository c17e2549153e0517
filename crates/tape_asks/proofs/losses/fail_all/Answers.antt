use Rattle.std.specs.Prelude.{codes}
use Rattle.tape_asks.proofs.LostFiles.{finish_text}
use Rattle.tape_asks.proofs.losses.fail_all.Goals as goal

pub loop-pair-preserved : goal.loop-pair-preserved
loop-pair-preserved c =
    finish_text c.args.at c.loop-pair.pair-index (codes "no tape is left") c.in-Some.text c.args.pairs.now _ c.pop.new.self.items c.loop-pair.texts.items c.args.requests.now c.loop-pair.requests c.finish.new.self
    c.loop-pair-test.true c.in-Some.ensures.items c.loop-pair.invariant.0 c.loop-pair.invariant.1 c.loop-pair.invariant.2 c.finish.ensures
