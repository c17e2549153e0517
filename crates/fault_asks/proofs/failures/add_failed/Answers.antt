use Rattle.std.proofs.Common.{◌≤◌, arith, length}
use Rattle.fault_asks.proofs.FailedLists.{back_apart}
use Rattle.fault_asks.proofs.failures.add_failed.Goals as goal

pub add-requires-clause-lacks : goal.add-requires-clause-lacks
add-requires-clause-lacks c =
    let top : c.loop-at.at ≤ length c.args.jobs.now = (let up = c.loop-at.auto.at in omega arith) in
    back_apart c.args.tapes.now.value c.loop-at.at _ c.args.jobs.now c.args.failed.now.value c.loop-at.failed.value c.loop-at-test.true top c.requires.apart c.loop-at.invariant.value
