use Rattle.std.specs.Prelude.{codes}
use Rattle.caller_asks.proofs.RequestLoops.{finish_text}
use Rattle.caller_asks.proofs.statuses.fail_all.Goals as goal

pub loop-file-preserved : goal.loop-file-preserved
loop-file-preserved c =
    finish_text c.args.at c.args.id c.loop-file.file-index (codes "no tape is left") c.in-Some.text c.args.files.now _ c.pop.new.self.items c.loop-file.texts.items c.args.requests.now c.loop-file.requests c.finish.new.self
    c.loop-file-test.true c.in-Some.ensures.items c.loop-file.invariant.0 c.loop-file.invariant.1 c.loop-file.invariant.2 c.finish.ensures
