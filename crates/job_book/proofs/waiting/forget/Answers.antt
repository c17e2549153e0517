use Rattle.std.proofs.Common.{arith}
use Rattle.job_book.proofs.Steps.{none_left, one_left}
use Rattle.job_book.proofs.waiting.forget.Goals as goal

pub loop-at-init : goal.loop-at-init
loop-at-init c = record { waits = λ f i. none_left _ _ _ _ i; room = omega arith }

pub loop-at-preserved : goal.loop-at-preserved
loop-at-preserved c = record { waits = λ f i. one_left c.args.owner _ i c.loop-at.at _ _ _ (c.loop-at.invariant.waits f i) (c.forget_at.ensures.waits f i); room = omega arith }
