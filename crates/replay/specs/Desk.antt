-- The drives of a run, each with its session, as the code keeps them.
use Rattle.std.specs.Prelude.{◌≡◌, ◌≢◌, ℕ, ◌⊎◌, List, [], ◌∷◌, length, slice_get, Option, Some, None, Bool, true, false}
use Rattle.blob.specs.Records.{MediumView}
use Rattle.cta_site.specs.declared.site.Site.{Site}
use Rattle.cta_model.specs.declared.asks.Ask.{Ask}
use Rattle.cta_model.specs.declared.asks.Ask.TheVariants as ask
use Rattle.cta_model.specs.declared.answers.Answer.{Answer}
use Rattle.cta_model.specs.declared.answers.Answer.TheVariants as answer
use Rattle.cta_model.specs.declared.answers.Refusal.TheVariants as refusal
use Rattle.cta_model.specs.declared.asks.Direction.{Direction}
use Rattle.cta_model.specs.declared.hands.Hand.{Hand}
use Rattle.cta_model.specs.History.{History}
use Rattle.cta_model.specs.Answers.{answer_of}
use Rattle.cta_model.specs.Kept.{Kept, kept_after}
use Rattle.cta_model.specs.Legal.{IsFit}
use Rattle.cta_model.specs.Mounts.{asked_mount}
use Rattle.media.specs.Drives.{DriveView}
use Rattle.drive_session.specs.declared.reports.Done.{Done}
use Rattle.drive_session.specs.declared.reports.StepLine.{StepLine}
use Rattle.drive_session.specs.declared.reports.StepLine.TheVariants as line
use Rattle.drive_session.specs.declared.session.Memo.{Memo}
use Rattle.drive_session.specs.declared.states.Asked.TheVariants as asked
use Rattle.drive_session.specs.declared.states.State.{State}
use Rattle.drive_session.specs.declared.states.State.TheVariants as state
use Rattle.drive_session.specs.Answers.{is_asking, is_memory, line_after}
use Rattle.drive_session.specs.Fits.{FitsState, IsMountAt}
use Rattle.drive_session.specs.Lawful.{IsSaid}
use Rattle.drive_session.specs.Steps.{HasDone, LeavesMedium, NoMismatch, is_loaded_in, item_written, medium_held}
use Rattle.drive_session.specs.Table.{Row, line_by, phase_after, phase_of, row_of}
use Rattle.replay.specs.Outcome.{AreMade}
use Rattle.replay.specs.Output.{run_behind}
use Rattle.replay.specs.Promises.{HasGivenNext, IsSoundStep, IsTelling}
use Rattle.replay.specs.Run.{Stepped}
use Rattle.replay.specs.Steps.{DriveState, IsCarriedOut, IsStepOf, Made, RunState, answer_to, begun_with, kept_by, kept_in, line_behind, medium_behind, phase_behind, row_at}

-- a desk: the run that it has come to, and whether each session is between two steps
pub record DeskView : Type 0 where
  pub run : RunState
  pub ready : Bool

-- where a drive stands, by its session and how it is seen
abbrev pub drive_state : {M : Type 0} → (M → MediumView) → Memo M → DriveView → DriveState
drive_state told m v = record { phase = phase_of m.state; seen = v; medium = medium_held told m.state }

-- where drives stand
abbrev pub drive_states : {M : Type 0} → (M → MediumView) → List (Memo M) → List DriveView → List DriveState
drive_states told [] seen = []
drive_states told (m ∷ ms) [] = []
drive_states told (m ∷ ms) (v ∷ vs) = drive_state told m v ∷ drive_states told ms vs

-- that, with what an archive has kept
abbrev pub desk_of : {M : Type 0} → (M → MediumView) → Kept → List (Memo M) → List DriveView → Bool → DeskView
desk_of told kept ms vs ready = record { run = record { site = kept.site; history = kept.history; shelf = kept.shelf; drives = drive_states told ms vs }; ready = ready }

-- no mount of the drive is open
abbrev pub HasNoMount : History → ℕ → Type 0
HasNoMount h d = (m : ℕ) (way : Direction) (v : ℕ) → IsMountAt h d m way v → ⊥

-- a session holds no mount
abbrev pub IsFree : {M : Type 0} → State M → Type 0
IsFree state.Free = Unit {0}
IsFree _ = ⊥

-- a session is that of the drive of this number, is between two steps and fits the history, its drive is loaded as its state says, and where it holds no mount the drive has none open
pub record IsManned {M : Type 0} (told : M → MediumView) (site : Site) (h : History) (d : ℕ) (m : Memo M) (v : DriveView) : Type 0 where
  pub number : m.number ≡ d
  pub kept : m.kept ≡ None
  pub rest : is_asking m.asked ≡ false
  pub fits : FitsState told site h d m.state
  pub loaded : v.loaded ≡ is_loaded_in m.state
  pub free : IsFree m.state → HasNoMount h d

-- so is each drive of the site
pub record AreManned {M : Type 0} (told : M → MediumView) (site : Site) (h : History) (ms : List (Memo M)) (vs : List DriveView) : Type 0 where
  pub sessions : length ms ≡ length site.drives.items
  pub drives : length vs ≡ length site.drives.items
  pub each : (d : ℕ) (m : Memo M) (v : DriveView) → slice_get ms d ≡ Some m → slice_get vs d ≡ Some v → IsManned told site h d m v

-- a step was carried out, with this line, and is sound
pub record StepsOn (old new : RunState) (drive moment : ℕ) (l : StepLine) : Type 0 where
  pub done : Option Done
  pub seen : DriveView
  pub left : Option MediumView
  pub row : Row
  pub is : IsStepOf old drive moment done seen left
  pub sound : IsSoundStep old drive moment done seen left
  pub at : row_at old drive done ≡ Some row
  pub line : l ≡ line_behind row (answer_to (kept_in old) moment row)
  pub keeps : new ≡ run_behind old (Stepped drive moment done seen left)

-- a desk at the start of a run, over drives and media that a bench has made
pub record Begins (tells : Bool) (site : Site) (desk : DeskView) : Type 0 where
  pub made : Made
  pub new : AreMade tells site made
  pub run : desk.run ≡ begun_with site made
  pub ready : desk.ready ≡ true

-- ---- one session

-- a Next is that of this drive
abbrev pub IsNextOf : ℕ → Ask → Type 0
IsNextOf d (ask.Next n) = n ≡ d
IsNextOf d _ = Unit {0}

-- an ask is about no mount, or about one that this drive has open; a Next is that of this drive
abbrev pub IsAbout : History → ℕ → Ask → Type 0
IsAbout h d k = IsNextOf d k × ((asked_mount k ≡ 0) ⊎ ((way : Direction) × ((v : ℕ) × IsMountAt h d (asked_mount k) way v)))

-- a drive that asks a Next has no mount open
abbrev pub IsIdleFor : History → ℕ → Ask → Type 0
IsIdleFor h d (ask.Next n) = HasNoMount h d
IsIdleFor h d _ = Unit {0}

abbrev pub IsRowAbout : History → ℕ → Option Ask → Type 0
IsRowAbout h d None = Unit {0}
IsRowAbout h d (Some k) = IsAbout h d k

-- a session's ask, which came with this medium or left it with the drive, was answered as the sequential archive answers it: the archive has kept this since, the session fits
-- that, and its line, phase and medium are those of the answer
pub record IsAskedOf {M : Type 0} (told : M → MediumView) (old new : Kept) (m m' : Memo M) (moment : ℕ) (k : Ask) (left : Option MediumView) (l : StepLine) : Type 0 where
  pub fit : IsFit old.site old.history k
  pub known : answer_of old.site old.history moment k ≢ answer.Refused refusal.Unknown
  pub keeps : new ≡ kept_after old moment k (answer_of old.site old.history moment k) left
  pub medium : medium_held told m'.state ≡ medium_behind old.shelf left (Some k) (Some (answer_of old.site old.history moment k))
  pub number : m'.number ≡ m.number
  pub kept : m'.kept ≡ None
  pub rest : is_asking m'.asked ≡ false
  pub fits : FitsState told new.site new.history m'.number m'.state
  pub line : l ≡ line_by m.asked (phase_of m.state) (answer_of old.site old.history moment k)
  pub phase : phase_of m'.state ≡ phase_after m.asked (phase_of m.state) (answer_of old.site old.history moment k)
  pub loaded : is_loaded_in m'.state ≡ is_loaded_in m.state
  pub memory : is_memory l ≡ false
  pub about : IsAbout old.history m.number k
  pub led : (a : Answer) × ((out : Hand M) × (l ≡ line_after m.asked m.state a out))
  pub free : IsFree m'.state → HasNoMount new.history m.number

-- a session has made a step with this line
pub record IsTurn {M : Type 0} (told : M → MediumView) (old new : Kept) (m m' : Memo M) (v v' : DriveView) (drive moment : ℕ) (l : StepLine) : Type 0 where
  pub done : Option Done
  pub left : Option MediumView
  pub row : Row
  pub heard : HasDone v v' done
  pub leaves : LeavesMedium done (item_written (phase_of m.state)) (medium_held told m.state) left
  pub at : row_of drive (phase_of m.state) done ≡ Some row
  pub carried : IsCarriedOut old moment row
  pub keeps : new ≡ kept_by old moment left row.ask
  pub medium : medium_held told m'.state ≡ medium_behind old.shelf left row.ask (answer_to old moment row)
  pub line : l ≡ line_behind row (answer_to old moment row)
  pub phase : phase_of m'.state ≡ phase_behind row (answer_to old moment row)
  pub about : IsRowAbout old.history drive row.ask
  pub said : IsSaid l done
  pub given : HasGivenNext (drive_state told m v) (medium_held told m.state) done
  pub tells : IsTelling (medium_held told m.state) → IsTelling left
  pub honest : IsTelling (medium_held told m.state) → v.honest ≡ true → (v'.honest ≡ true) × NoMismatch done
  pub manned : IsManned told new.site new.history drive m' v'

-- a session of this drive that is free
abbrev pub free_memo : {M : Type 0} → ℕ → Memo M
free_memo d = record { number = d; state = state.Free; asked = asked.Nothing line.Idle; kept = None }

-- so many sessions that are free, by the numbers of their drives
pub record AreFree {M : Type 0} (count : ℕ) (ms : List (Memo M)) : Type 0 where
  pub count_is : length ms ≡ count
  pub each : (d : ℕ) (m : Memo M) → slice_get ms d ≡ Some m → m ≡ free_memo d
