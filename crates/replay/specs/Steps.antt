-- Steps of drives: what each asks of the archive, what is kept behind it, and its line.
use Rattle.std.specs.Prelude.{◌≡◌, ◌≢◌, ℕ, List, [], ◌++◌, map, codes, decimal, slice_get, slice_set, Option, Some, None, option_map, Bool, true, false}
use Rattle.blob.specs.Records.{MediumView, medium_at}
use Rattle.cta_site.specs.declared.site.Site.{Site}
use Rattle.cta_site.specs.Lookups.{vid_of}
use Rattle.cta_model.specs.declared.answers.Answer.{Answer}
use Rattle.cta_model.specs.declared.answers.Answer.TheVariants as answer
use Rattle.cta_model.specs.declared.answers.Refusal.TheVariants as refusal
use Rattle.cta_model.specs.declared.asks.Ask.{Ask}
use Rattle.cta_model.specs.declared.asks.Ask.TheVariants as ask
use Rattle.cta_model.specs.declared.asks.Direction.{Direction}
use Rattle.cta_model.specs.declared.asks.Direction.TheVariants as direction
use Rattle.cta_model.specs.History.{History}
use Rattle.cta_model.specs.Answers.{answer_of}
use Rattle.cta_model.specs.Kept.{Kept, kept_after}
use Rattle.cta_model.specs.Legal.{IsFit}
use Rattle.media.specs.Drives.{DriveView}
use Rattle.drive_session.specs.declared.reports.Done.{Done}
use Rattle.drive_session.specs.declared.reports.ReadEnd.{ReadEnd}
use Rattle.drive_session.specs.declared.reports.ReadEnd.TheVariants as end
use Rattle.drive_session.specs.declared.reports.StepLine.{StepLine}
use Rattle.drive_session.specs.declared.reports.StepLine.TheVariants as line
use Rattle.drive_session.specs.Answers.{is_memory, said}
use Rattle.drive_session.specs.Steps.{HasDone, LeavesMedium, item_written}
use Rattle.drive_session.specs.Table.{Free, Phase, Row, line_by, phase_after, row_of}
use Rattle.replay.specs.Line.{drive_name}

-- ---- what a run has come to

-- where a drive stands: the phase of its session, how the drive is seen, and the medium of its mount, none where it has no mount
pub record DriveState : Type 0 where
  pub phase : Phase
  pub seen : DriveView
  pub medium : Option MediumView

-- a site, the history that an archive of it has kept, the shelf (by tape its medium, none while a drive has it), and where each drive stands, by number
pub record RunState : Type 0 where
  pub site : Site
  pub history : History
  pub shelf : List (Option MediumView)
  pub drives : List DriveState

-- what the archive has kept
abbrev pub kept_in : RunState → Kept
kept_in s = record { site = s.site; history = s.history; shelf = s.shelf }

-- the archive has kept this since
abbrev pub with_kept : RunState → Kept → RunState
with_kept s kept = record s { history = kept.history; shelf = kept.shelf }

-- what a bench has made for a site: the medium of each tape, and the drives, each by number
pub record Made : Type 0 where
  pub media : List MediumView
  pub drives : List DriveView

-- a drive that is seen so, free
abbrev pub free_drive : DriveView → DriveState
free_drive v = record { phase = Free; seen = v; medium = None }

-- nothing has happened yet: no history, each medium is on the shelf, and each drive is free
abbrev pub begun_with : Site → Made → RunState
begun_with site made = record { site = site; history = []; shelf = map Some made.media; drives = map free_drive made.drives }

-- ---- a step

-- the row of a drive's table for what the device answered, none where there is no such drive or row
abbrev pub row_in : ℕ → Option Done → Option DriveState → Option Row
row_in drive _ None = None
row_in drive done (Some d) = row_of drive d.phase done

-- the row of a step in a run
abbrev pub row_at : RunState → ℕ → Option Done → Option Row
row_at s drive done = row_in drive done (slice_get s.drives drive)

-- the answer of the sequential archive to what a row asks
abbrev pub answer_to : Kept → ℕ → Row → Option Answer
answer_to kept moment r = option_map (answer_of kept.site kept.history moment) r.ask

-- the line of a row, behind the answer where it asks
abbrev pub line_behind : Row → Option Answer → StepLine
line_behind r None = said r.asked
line_behind r (Some a) = line_by r.asked r.phase a

-- the line of a row, none where there is no row
abbrev pub line_by_row : Kept → ℕ → Option Row → Option StepLine
line_by_row kept moment None = None
line_by_row kept moment (Some r) = Some (line_behind r (answer_to kept moment r))

-- the line of a step in a run
abbrev pub line_at : RunState → ℕ → ℕ → Option Done → Option StepLine
line_at s drive moment done = line_by_row (kept_in s) moment (row_at s drive done)

-- the phase behind a row
abbrev pub phase_behind : Row → Option Answer → Phase
phase_behind r None = r.phase
phase_behind r (Some a) = phase_after r.asked r.phase a

-- what is kept behind what a row asks, where the device has left this medium
abbrev pub kept_by : Kept → ℕ → Option MediumView → Option Ask → Kept
kept_by kept moment left None = kept
kept_by kept moment left (Some k) = kept_after kept moment k (answer_of kept.site kept.history moment k) left

-- the medium that a drive has behind what it asked: a Next that mounted a tape took the medium from its place on the shelf, an End brought the drive's back, and all else
-- leaves it where it is
abbrev pub medium_behind : List (Option MediumView) → Option MediumView → Option Ask → Option Answer → Option MediumView
medium_behind shelf left (Some (ask.Next d)) (Some (answer.Mounted m way v)) = medium_at shelf v
medium_behind shelf left (Some (ask.End m fault)) a = None
medium_behind shelf left k a = left

-- the run behind a step with this row, where the drive is seen so and its medium was left so
abbrev pub behind_row : RunState → ℕ → ℕ → DriveView → Option MediumView → Option Row → RunState
behind_row s drive moment seen left None = s
behind_row s drive moment seen left (Some r) =
    record s {
      history = (kept_by (kept_in s) moment left r.ask).history;
      shelf = (kept_by (kept_in s) moment left r.ask).shelf;
      drives = slice_set s.drives drive (record {
        phase = phase_behind r (answer_to (kept_in s) moment r);
        seen = seen;
        medium = medium_behind s.shelf left r.ask (answer_to (kept_in s) moment r);
      });
    }

-- ---- which steps are carried out

-- what a row asks is what a session may ask
abbrev pub IsAskFit : Site → History → Option Ask → Type 0
IsAskFit site h None = Unit {0}
IsAskFit site h (Some k) = IsFit site h k

-- what a row asks about is known
abbrev pub IsAnswerKnown : Option Answer → Type 0
IsAnswerKnown None = Unit {0}
IsAnswerKnown (Some a) = a ≢ answer.Refused refusal.Unknown

-- a row that is carried out: its ask is fit and not answered Unknown, and its line tells of no want of memory
pub record IsCarriedOut (kept : Kept) (moment : ℕ) (r : Row) : Type 0 where
  pub fit : IsAskFit kept.site kept.history r.ask
  pub known : IsAnswerKnown (answer_to kept moment r)
  pub told : is_memory (line_behind r (answer_to kept moment r)) ≡ false

-- there is a row, and it is carried out
abbrev pub HasCarriedOut : Kept → ℕ → Option Row → Type 0
HasCarriedOut kept moment None = ⊥
HasCarriedOut kept moment (Some r) = IsCarriedOut kept moment r

-- the device of a drive has answered so in one call, or made none
abbrev pub HasAnsweredSo : Option DriveState → Option Done → DriveView → Type 0
HasAnsweredSo None _ seen = ⊥
HasAnsweredSo (Some d) done seen = HasDone d.seen seen done

-- it has left the medium of its mount so
abbrev pub HasLeftSo : Option DriveState → Option Done → Option MediumView → Type 0
HasLeftSo None _ left = ⊥
HasLeftSo (Some d) done left = LeavesMedium done (item_written d.phase) d.medium left

-- a step that is carried out: its device has answered so and left its medium so, and it has a row that is carried out
pub record IsStepOf (s : RunState) (drive moment : ℕ) (done : Option Done) (seen : DriveView) (left : Option MediumView) : Type 0 where
  pub device : HasAnsweredSo (slice_get s.drives drive) done seen
  pub medium : HasLeftSo (slice_get s.drives drive) done left
  pub row : HasCarriedOut (kept_in s) moment (row_at s drive done)

-- the ask of a step, where it has a row, is one that a session may make
abbrev pub IsRowFit : Kept → Option Row → Type 0
IsRowFit kept None = Unit {0}
IsRowFit kept (Some r) = IsAskFit kept.site kept.history r.ask

-- ---- lines

-- whether a call succeeded
abbrev pub how : Bool → List ℕ
how true = codes "ok"
how false = codes "failed"

-- which way a mount goes
abbrev pub way_text : Direction → List ℕ
way_text direction.Archive = codes "archive"
way_text direction.Retrieve = codes "retrieve"

-- how a read ended
abbrev pub end_text : ReadEnd → List ℕ
end_text end.Done = codes "done"
end_text end.Stale = codes "stale"
end_text end.Failed = codes "failed"
end_text end.Mismatch = codes "mismatch"

-- the words of a line
abbrev pub line_words : Site → StepLine → List ℕ
line_words site (line.Mount way v) = codes "mount " ++ way_text way ++ codes " " ++ vid_of site v
line_words site line.Idle = codes "idle"
line_words site line.Down = codes "down"
line_words site line.Busy = codes "busy"
line_words site line.Full = codes "full"
line_words site (line.Load ok) = codes "load " ++ how ok
line_words site (line.Claim n) = codes "claim " ++ decimal n
line_words site line.ClaimFull = codes "claim full"
line_words site (line.Write s ok) = codes "write " ++ decimal s ++ codes " " ++ how ok
line_words site (line.Flush done stale) = codes "flush " ++ decimal done ++ codes " " ++ decimal stale
line_words site line.FlushFailed = codes "flush failed"
line_words site (line.Read s e) = codes "read " ++ decimal s ++ codes " " ++ end_text e
line_words site (line.Unload ok) = codes "unload " ++ how ok
line_words site line.Memory = codes "memory"

-- the line that is written for a step
unfoldable pub step_line : Site → ℕ → StepLine → List ℕ
step_line site drive l = codes "step " ++ drive_name site drive ++ codes " " ++ line_words site l ++ codes "\n"

-- what is written for a step with this row; nothing where it has none
abbrev pub written_by : RunState → ℕ → ℕ → Option Row → List ℕ
written_by s drive moment None = []
written_by s drive moment (Some r) = step_line s.site drive (line_behind r (answer_to (kept_in s) moment r))
