use Rattle.std.specs.Prelude.{codes}
use Rattle.caller_asks.proofs.Requests.{finish_text}
use Rattle.caller_asks.proofs.waiting.fail_all.Goals as goal

pub loop-id-preserved : goal.loop-id-preserved
loop-id-preserved c =
    finish_text c.args.at c.args.file c.loop-id.id-index (codes "deleted") c.in-Some.text c.args.ids.now 0 c.pop.new.self.items c.loop-id.texts.items c.args.requests.now c.loop-id.requests c.finish.new.self
    c.loop-id-test.true c.in-Some.ensures.items c.loop-id.invariant.0 c.loop-id.invariant.1 c.loop-id.invariant.2 c.finish.ensures
