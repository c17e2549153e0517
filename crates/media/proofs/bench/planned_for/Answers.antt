use Rattle.std.proofs.Common.{◌∙◌, ◌++◌, ◌∷◌, [], sym, ap}
use Rattle.std.proofs.lemmas.List.{take_all}
use Rattle.media.specs.Made.{planned_for, planned_of}
use Rattle.media.proofs.Plans.{planned_more, planned_same}
use Rattle.media.proofs.bench.planned_for.Goals.{then-is+in_ok-push, else-is}
use Rattle.media.proofs.bench.planned_for.Goals as goal

pub loop-failure-preserved : goal.loop-failure-preserved
loop-failure-preserved c =
    elim c.if-is.branch [
      | then-is+in_ok-push w ↦ ap (λ v. v.items) w.plan-is ∙ w.in_ok-push.ensures.items ∙ ap (λ ys. ys ++ planned_of c.failure-item.result ∷ []) c.loop-failure.invariant
          ∙ sym (planned_more _ _ _ c.failure-item.result c.loop-failure-test.true c.failure-item.is (sym c.is.ensures ∙ w.if-is.true))
      | else-is w ↦ ap (λ v. v.items) w.plan-is ∙ c.loop-failure.invariant
          ∙ sym (planned_same _ _ _ c.failure-item.result c.loop-failure-test.true c.failure-item.is (sym c.is.ensures ∙ w.if-is.false))
    ]

pub returns : goal.returns
returns c = c.loop-failure.invariant ∙ ap (planned_for _) (take_all _ _ c.loop-failure-test.false)
