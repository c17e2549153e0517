use Rattle.fault_asks.proofs.EndedFiles.{failed_more}
use Rattle.fault_asks.proofs.endings.fail_requests.Goals as goal

pub loop-ending-preserved : goal.loop-ending-preserved
loop-ending-preserved c = failed_more c.args.at c.in-Some.ending c.pop.new.self.items c.loop-ending.endings.items c.loop-ending.requests c.finish.new.self _ c.in-Some.ensures.items c.finish.ensures c.loop-ending.invariant
