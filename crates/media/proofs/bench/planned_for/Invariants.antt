use Rattle.std.proofs.Common.{◌≡◌, take}
use Rattle.media.specs.Made.{planned_for}
use Rattle.media.proofs.bench.planned_for.Given as goal

abbrev pub invariant-loop-failure : goal.invariant-loop-failure
invariant-loop-failure l = l.plan.items ≡ planned_for l.name (take l.failure-index l.failures)
