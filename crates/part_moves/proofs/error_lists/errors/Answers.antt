use Rattle.part_moves.proofs.error_lists.errors.Goals as goal
use Rattle.part_moves.proofs.LastOnes.{one_longer}

pub loop-preserved : goal.loop-preserved
loop-preserved c =
    let pushed = c.in_ok-push.ensures.items in
    one_longer c.args.error.now c.in_ok-text.text c.loop.counter c.loop.texts.items c.push.new.self.items pushed c.in_ok-text.ensures c.loop.invariant.0 c.loop.invariant.1
