use Rattle.part_moves.proofs.WaitLists.{pairs_more, pairs_none}
use Rattle.part_moves.proofs.waiters.add_pairs.Goals as goal

pub loop-id-init : goal.loop-id-init
loop-id-init c = pairs_none c.args.file c.args.out.now.items

pub loop-id-preserved : goal.loop-id-preserved
loop-id-preserved c = pairs_more c.args.file c.loop-id.id-index _ c.args.ids.now c.args.out.now.items c.loop-id.out.items c.push.new.self.items c.loop-id-test.true c.loop-id.invariant c.in_ok-push.ensures.items
