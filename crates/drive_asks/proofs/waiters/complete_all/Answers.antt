use Rattle.drive_asks.proofs.CompletedFiles.{completed_more}
use Rattle.drive_asks.proofs.waiters.complete_all.Goals as goal

pub loop-id-preserved : goal.loop-id-preserved
loop-id-preserved c = completed_more c.args.at c.args.file c.loop-id.id-index c.args.ids.now _ c.args.requests.now c.loop-id.requests c.finish.new.self c.loop-id-test.true c.loop-id.invariant c.finish.ensures
