-- The calls of a drive's worker.
use Rattle.std.proofs.Common.{◌≡◌, ℕ, Bool, true, List, [], ◌∷◌, ◌++◌, refl, sym, subst}
use Rattle.std.specs.Prelude.{Option, Some, None, Result, Ok, Err}
use Rattle.std.specs.List.{AllByRecursion}
use Rattle.blob.specs.Records.{MediumView}
use Rattle.cta_model.specs.declared.asks.Ask.{Ask}
use Rattle.cta_model.specs.declared.hands.Hand.{Hand}
use Rattle.media.specs.Drives.{DriveView}
use Rattle.drive_session.specs.declared.reports.StepLine.{StepLine}
use Rattle.drive_session.specs.declared.session.Memo.{Memo}
use Rattle.turn_hall.specs.declared.view.Made.{Made}
use Rattle.turn_hall.specs.declared.view.View.{View}
use Rattle.drive_turns.specs.declared.front.Came.{Came}
use Rattle.drive_turns.specs.Turns.{AreOfSessions, HasAsked, IsDriveTurn, is_of_session}

all_and : {X : Type 0} (P : X → Type 0) (xs : List X) (y : X) → AllByRecursion P xs → P y → AllByRecursion P (xs ++ y ∷ [])
all_and P [] y a p = (p, tt)
all_and P (x ∷ xs) y a p = (a.0, all_and P xs y a.1 p)

module _ {W E C B M K : Type 0} (told : M → MediumView) (asking : ℕ → Ask → Hand M → C) (hears : B → Option (Came M K)) (legal : List E → Type 0) (plays : List E → C → B → List E → Type 0) (topic : E → Option ℕ) (adds : C → B → Bool) where
  by_ask : (v w : View W E C B) (s m : Memo M) (ask : Option (Ask × Hand M)) (l : Result StepLine K) → HasAsked told asking hears legal plays topic adds v w s m ask l → AreOfSessions asking v.mine → AreOfSessions asking w.mine
  by_ask v w s m None l h all = subst (λ (z : View W E C B). AreOfSessions asking z.mine) (sym h.0) all
  by_ask v w s m (Some (a, k)) l h all =
      subst (λ (ms : List (Made C B)). AreOfSessions asking ms) (sym h.turn.mine)
      (all_and (λ (x : Made C B). (at : ℕ) × (b : Ask) × (q : Hand M) × (is_of_session b ≡ true) × (x.call ≡ asking at b q)) v.mine _ all (h.at, a, k, h.session, refl))

  -- a step adds an ask of a session, or no call
  pub step_of_session : (v w : View W E C B) (m m' : Memo M) (d d' : DriveView) (l : Result StepLine K) → IsDriveTurn told asking hears legal plays topic adds v w m m' d d' l → AreOfSessions asking v.mine → AreOfSessions asking w.mine
  step_of_session v w m m' d d' l step all = by_ask v w step.behind m' step.report.ask l step.asked all
