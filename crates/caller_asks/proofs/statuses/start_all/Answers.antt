use Rattle.caller_asks.proofs.RequestLoops.{start_more}
use Rattle.caller_asks.proofs.statuses.start_all.Goals as goal

pub loop-file-preserved : goal.loop-file-preserved
loop-file-preserved c = start_more c.args.at c.args.id c.loop-file.file-index c.args.files.now _ c.args.requests.now c.loop-file.requests c.start.new.self c.loop-file-test.true c.loop-file.invariant c.start.ensures
