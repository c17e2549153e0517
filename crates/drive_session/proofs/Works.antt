-- What `work` keeps of a session that fits.
use Rattle.std.proofs.Common.{◌≡◌, refl, sym, subst}
use Rattle.std.specs.Prelude.{Option, None}
use Rattle.blob.specs.Records.{MediumView}
use Rattle.cta_site.specs.declared.site.Site.{Site}
use Rattle.cta_model.specs.declared.asks.Ask.{Ask}
use Rattle.cta_model.specs.declared.hands.Hand.{Hand}
use Rattle.cta_model.specs.History.{History}
use Rattle.media.specs.Drives.{DriveView}
use Rattle.drive_session.specs.declared.session.Memo.{Memo}
use Rattle.drive_session.specs.declared.states.State.{State}
use Rattle.drive_session.specs.declared.states.Step.{Step}
use Rattle.drive_session.specs.Fits.{FitsState}
use Rattle.drive_session.specs.Steps.{FitsReport, IsStep}
use Rattle.drive_session.specs.Works.{FitsMemo, IsWork, IsWorkBy}

-- a session without a kept ask fits by its state
pub memo_state : {M : Type 0} (told : M → MediumView) (site : Site) (h : History) (s t : Memo M) (st : State M) → s ≡ t → t.kept ≡ None → st ≡ t.state → FitsMemo told site h s → FitsState told site h t.number st
memo_state told site h s t st same none is fits =
    subst (λ z. FitsState told site h t.number z) (sym is) (subst (λ k. FitsReport told site h t.number t.state t.asked k) none (subst (λ z. FitsMemo told site h z) same fits))

-- the step of a session's state is what `work` makes of it, where no ask is kept
pub work_step : {M : Type 0} (told : M → MediumView) (old new : DriveView) (s t : Memo M) (st : State M) (kept : Option (Ask × Hand M)) (step : Step M) → s ≡ t → t.kept ≡ None → st ≡ t.state → kept ≡ None → IsStep told t.number st old new step
    → IsWork told old new s (record { number = t.number; state = step.state; asked = step.asked; kept = kept }) step.report
work_step {M = M} told old new s t st kept step same none is gone made =
    let s' : Memo M = record { number = t.number; state = step.state; asked = step.asked; kept = kept } in
    subst (λ z. IsWork told old new z s' step.report) (sym same)
    (subst (λ k. IsWorkBy told old new t s' step.report k) (sym none) (refl, gone, subst (λ z. IsStep told t.number z old new step) is made))
