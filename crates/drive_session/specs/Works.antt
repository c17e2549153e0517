-- What `work` and `take` keep.
use Rattle.std.specs.Prelude.{◌≡◌, Bool, Option, Some, None, Result, Ok, Err, true, false}
use Rattle.blob.specs.Records.{MediumView}
use Rattle.cta_values.specs.declared.no_memory.NoMemory.{NoMemory}
use Rattle.cta_site.specs.declared.site.Site.{Site}
use Rattle.cta_model.specs.declared.answers.Answer.{Answer}
use Rattle.cta_model.specs.declared.asks.Ask.{Ask}
use Rattle.cta_model.specs.declared.hands.Hand.{Hand}
use Rattle.cta_model.specs.History.{History}
use Rattle.media.specs.Drives.{DriveView}
use Rattle.drive_session.specs.declared.reports.Report.{Report}
use Rattle.drive_session.specs.declared.reports.StepLine.{StepLine}
use Rattle.drive_session.specs.declared.reports.StepLine.TheVariants as line
use Rattle.drive_session.specs.declared.session.Memo.{Memo}
use Rattle.drive_session.specs.declared.states.Asked.TheVariants as asked
use Rattle.drive_session.specs.declared.states.State.{State}
use Rattle.drive_session.specs.declared.states.State.TheVariants as state
use Rattle.drive_session.specs.Answers.{is_asking, line_after, state_after}
use Rattle.drive_session.specs.Steps.{FitsReport, FitsSome, IsStep}

-- a session fits a history: with its kept ask, where it has one
abbrev pub FitsMemo : {M : Type 0} → (M → MediumView) → Site → History → Memo M → Type 0
FitsMemo told site h s = FitsReport told site h s.number s.state s.asked s.kept

-- where no ask is kept, none is open and the state fits some history
abbrev pub MayWorkBy : {M : Type 0} → (M → MediumView) → Memo M → Option (Ask × Hand M) → Type 0
MayWorkBy told s None = (is_asking s.asked ≡ false) × FitsSome told s.number s.state
MayWorkBy told s (Some q) = is_asking s.asked ≡ true

-- a session may work where no ask is open, but for a kept one
abbrev pub MayWork : {M : Type 0} → (M → MediumView) → Memo M → Type 0
MayWork told s = MayWorkBy told s s.kept

-- a kept ask is repeated with no call of the device; else the state makes its step
abbrev pub IsWorkBy : {M : Type 0} → (M → MediumView) → DriveView → DriveView → Memo M → Memo M → Report M → Option (Ask × Hand M) → Type 0
IsWorkBy told old new s s' r (Some q) = (s' ≡ record s { kept = None }) × (r ≡ record { device = None; ask = Some q }) × (new ≡ old)
IsWorkBy told old new s s' r None = (s'.number ≡ s.number) × (s'.kept ≡ None) × IsStep told s.number s.state old new (record { state = s'.state; asked = s'.asked; report = r })

-- what `work` makes of what a session keeps
abbrev pub IsWork : {M : Type 0} → (M → MediumView) → DriveView → DriveView → Memo M → Memo M → Report M → Type 0
IsWork told old new s s' r = IsWorkBy told old new s s' r s.kept

-- a want of memory keeps the ask with what goes with it, and nothing else changes; an answer leads on
abbrev pub IsTaken : {M : Type 0} → Memo M → Memo M → Result (Answer × Hand M) (NoMemory × Ask × Hand M) → StepLine → Type 0
IsTaken s s' (Err e) l = (l ≡ line.Memory) × (s' ≡ record s { kept = Some (e.1, e.2) })
IsTaken s s' (Ok b) l = (l ≡ line_after s.asked s.state b.0 b.1) × (s' ≡ record s { state = state_after s.asked s.state b.0 b.1; asked = asked.Nothing l })

-- a session is free where it has no mount, and no ask to repeat
abbrev pub is_free_by : {M : Type 0} → State M → Option (Ask × Hand M) → Bool
is_free_by state.Free None = true
is_free_by _ _ = false

-- whether a session is free
abbrev pub is_free : {M : Type 0} → Memo M → Bool
is_free s = is_free_by s.state s.kept
