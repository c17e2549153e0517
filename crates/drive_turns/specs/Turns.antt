-- One step of a drive, with at most one call in a turn.
use Rattle.std.specs.Prelude.{ℕ, ◌≡◌, ◌≢◌, ◌≤◌, ⊤, is_err, IfOk, List, Bool, true, false, Option, Some, None, Result, Ok, Err}
use Rattle.std.specs.List.{AllByRecursion}
use Rattle.blob.specs.Records.{MediumView}
use Rattle.cta_site.specs.declared.site.Site.{Site}
use Rattle.cta_model.specs.declared.answers.Answer.TheVariants as answer
use Rattle.cta_model.specs.declared.answers.Refusal.TheVariants as refusal
use Rattle.cta_model.specs.declared.asks.Ask.{Ask}
use Rattle.cta_model.specs.declared.asks.Ask.TheVariants as ask
use Rattle.cta_model.specs.declared.hands.Hand.{Hand}
use Rattle.cta_model.specs.History.{History}
use Rattle.cta_model.specs.Legal.{greatest_moment}
use Rattle.media.specs.Drives.{DriveView}
use Rattle.drive_session.specs.declared.reports.Done.{Done}
use Rattle.drive_session.specs.declared.reports.Report.{Report}
use Rattle.drive_session.specs.declared.reports.StepLine.{StepLine}
use Rattle.drive_session.specs.declared.session.Memo.{Memo}
use Rattle.drive_session.specs.Answers.{is_memory, said}
use Rattle.drive_session.specs.Lawful.{Follows, IsSaid, Standing, standing_of}
use Rattle.drive_session.specs.Steps.{FitsReport, LeadsOn, is_loaded_in}
use Rattle.drive_session.specs.Works.{FitsMemo, IsTaken, IsWork}
use Rattle.turn_hall.specs.declared.view.Made.{Made}
use Rattle.turn_hall.specs.declared.view.View.{View}
use Rattle.turn_hall.specs.Promises.{Turned}
use Rattle.drive_turns.specs.declared.front.Came.{Came}
use Rattle.drive_turns.specs.declared.front.Came.TheVariants as came

-- ---- the halves of a step

-- whether a drive's session asks this
abbrev pub is_of_session : Ask → Bool
is_of_session (ask.Next d) = true
is_of_session (ask.Claim m) = true
is_of_session (ask.Flushed m items) = true
is_of_session (ask.Recalled m job) = true
is_of_session (ask.Failed m f charged returned) = true
is_of_session (ask.End m f) = true
is_of_session _ = false

-- what a session asks is the call, at some moment; or it asks nothing, and there is no call
abbrev pub IsCallOf : {C M : Type 0} → (ℕ → Ask → Hand M → C) → Option (Ask × Hand M) → Option C → Type 0
IsCallOf asking None None = ⊤
IsCallOf asking (Some (a, k)) (Some c) = (at : ℕ) × (at ≤ greatest_moment) × (c ≡ asking at a k)
IsCallOf asking _ _ = ⊥

-- a session has worked, and what it asks is the call
pub record HasBegun {C M : Type 0} (told : M → MediumView) (asking : ℕ → Ask → Hand M → C) (m s : Memo M) (d d' : DriveView) (c : Option C) : Type 0 where
  pub report : Report M
  pub work : IsWork told d d' m s report
  pub called : IsCallOf asking report.ask c
  pub loaded : d'.loaded ≡ is_loaded_in s.state
  pub fits : (site : Site) (h : History) → FitsMemo told site h m → FitsReport told site h s.number s.state s.asked report.ask

-- a session has taken what came back, and its line tells of a want of memory exactly where that is what came back; where nothing more is asked, the session is as it was
abbrev pub HasTaken : {M K : Type 0} → Memo M → Memo M → Came M K → Result StepLine K → Type 0
HasTaken s m (came.Back r) (Ok l) = IsTaken s m r l × (is_memory l ≡ is_err r)
HasTaken s m (came.Stop why) (Err e) = (e ≡ why) × (m ≡ s)
HasTaken s m _ _ = ⊥

-- what came back, if it is an answer, is not that the ask is unknown
abbrev pub IsKnown : {M K : Type 0} → Came M K → Type 0
IsKnown (came.Back r) = IfOk r (λ b. b.0 ≢ answer.Refused refusal.Unknown)
IsKnown (came.Stop why) = ⊤

-- ---- lines

-- where the lines of a session stand, and what the device answered in the step that first had the ask which is kept
abbrev pub StandsBy : {M : Type 0} → Memo M → Option (Ask × Hand M) → Standing → Option Done → Type 0
StandsBy m None from e = from ≡ standing_of m.state
StandsBy m (Some q) from e = LeadsOn from m.asked m.state e

-- the same, by the ask that the session keeps
abbrev pub StandsAt : {M : Type 0} → Memo M → Standing → Option Done → Type 0
StandsAt m from e = StandsBy m m.kept from e

-- what the device answered in this step, or in the step that first had a repeated ask
abbrev pub answered_in : {M : Type 0} → Option (Ask × Hand M) → Option Done → Option Done → Option Done
answered_in None e now = now
answered_in (Some q) e now = e

-- the line follows where the lines of the session stood, and says what the device answered in this step or in the step that first had a repeated ask
pub record IsLine {M : Type 0} (m m' : Memo M) (done : Option Done) (l : StepLine) (from : Standing) (e : Option Done) : Type 0 where
  pub to : Standing
  pub follows : Follows from l to
  pub says : IsSaid l (answered_in m.kept e done)
  pub stands : StandsAt m' to (answered_in m.kept e done)

-- ---- a step

module _ {W E C B M K : Type 0} (told : M → MediumView) (asking : ℕ → Ask → Hand M → C) (hears : B → Option (Came M K)) (legal : List E → Type 0) (plays : List E → C → B → List E → Type 0) (topic : E → Option ℕ) (adds : C → B → Bool) where
  -- an ask that is a session's, with what goes with it, was called in one turn, at some moment, and the session took what came back, which is not that the ask is unknown
  pub record IsAskedInTurn (v w : View W E C B) (s m : Memo M) (a : Ask) (k : Hand M) (l : Result StepLine K) : Type 0 where
    pub at : ℕ
    pub within : at ≤ greatest_moment
    pub session : is_of_session a ≡ true
    pub back : B
    pub turn : Turned legal plays topic adds v (asking at a k) back w
    pub came : Came M K
    pub heard : hears back ≡ Some came
    pub known : IsKnown came
    pub taken : HasTaken s m came l

  -- what a step asks: nothing, and then the pass makes no call; or one ask in one turn
  abbrev pub HasAsked : View W E C B → View W E C B → Memo M → Memo M → Option (Ask × Hand M) → Result StepLine K → Type 0
  HasAsked v w s m None l = (w ≡ v) × (m ≡ s) × (l ≡ Ok (said s.asked))
  HasAsked v w s m (Some (a, k)) l = IsAskedInTurn v w s m a k l

  -- One step of a drive: the session worked once, with at most one call of the device, and what it asked, if anything, is the one call that was added to the pass's own
  pub record IsDriveTurn (v w : View W E C B) (m m' : Memo M) (d d' : DriveView) (l : Result StepLine K) : Type 0 where
    pub behind : Memo M
    pub report : Report M
    pub work : IsWork told d d' m behind report
    pub asked : HasAsked v w behind m' report.ask l
    pub line : IfOk l (λ x. (from : Standing) (e : Option Done) → StandsAt m from e → IsLine m m' report.device x from e)

-- each of these calls is an ask of a session, at some moment
abbrev pub AreOfSessions : {C B M : Type 0} → (ℕ → Ask → Hand M → C) → List (Made C B) → Type 0
AreOfSessions {C} {B} {M} asking mine = AllByRecursion (λ (x : Made C B). (at : ℕ) × (a : Ask) × (k : Hand M) × (is_of_session a ≡ true) × (x.call ≡ asking at a k)) mine
