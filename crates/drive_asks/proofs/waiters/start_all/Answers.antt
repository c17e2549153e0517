use Rattle.drive_asks.proofs.WaitLists.{start_more}
use Rattle.drive_asks.proofs.waiters.start_all.Goals as goal

pub loop-pair-preserved : goal.loop-pair-preserved
loop-pair-preserved c = start_more c.args.at c.loop-pair.pair-index c.args.pairs.now _ c.args.requests.now c.loop-pair.requests c.start.new.self c.loop-pair-test.true c.loop-pair.invariant c.start.ensures
