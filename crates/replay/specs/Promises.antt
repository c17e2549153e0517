-- What a run keeps, whichever calls of devices fail.
use Rattle.std.specs.Prelude.{◌≡◌, ◌≢◌, ℕ, ◌<◌, ◌⊎◌, ◌++◌, [], ◌∷◌, length, List, slice_get, Option, Some, None, IsSome, Bool, true, false}
use Rattle.blob.specs.Records.{MediumView, medium_at}
use Rattle.cta_site.specs.declared.site.Site.{Site}
use Rattle.cta_site.specs.Listed.{Listed}
use Rattle.cta_model.specs.declared.asks.Ask.TheVariants as ask
use Rattle.cta_model.specs.declared.asks.Direction.{Direction}
use Rattle.cta_model.specs.declared.asks.Fault.{Fault}
use Rattle.cta_model.specs.declared.asks.Item.{Item}
use Rattle.cta_model.specs.declared.asks.Job.{Job}
use Rattle.cta_model.specs.declared.entries.Entry.{Entry}
use Rattle.cta_model.specs.History.{History}
use Rattle.cta_model.specs.Jobs.{is_live_job}
use Rattle.cta_model.specs.Legal.{IsLegal}
use Rattle.cta_model.specs.Media.{IsMediumOf}
use Rattle.cta_model.specs.Mounts.{has_job, is_mounted}
use Rattle.cta_laws.specs.Holding.{HoldsLaws}
use Rattle.cta_laws.specs.Jobs.{IsClaimed, IsQueued}
use Rattle.media.specs.Drives.{DriveView}
use Rattle.drive_session.specs.declared.reports.Done.{Done}
use Rattle.drive_session.specs.declared.reports.Done.TheVariants as done
use Rattle.drive_session.specs.declared.reports.ReadEnd.TheVariants as end
use Rattle.drive_session.specs.declared.reports.StepLine.{StepLine}
use Rattle.drive_session.specs.declared.reports.StepLine.TheVariants as line
use Rattle.drive_session.specs.Fits.{IsMountAt}
use Rattle.drive_session.specs.Lawful.{IsSaid}
use Rattle.drive_session.specs.Steps.{HasGiven, NoMismatch}
use Rattle.drive_session.specs.Table.{Phase, Reading, Row}
use Rattle.replay.specs.Output.{after, run_behind}
use Rattle.replay.specs.Run.{Answered, Happening, ScriptTurn, Stepped, all_happenings}
use Rattle.replay.specs.Steps.{DriveState, HasCarriedOut, IsRowFit, Made, RunState, begun_with, behind_row, kept_in, line_at, row_at}

-- ---- media

-- a tape that isn't mounted has its medium on the shelf
pub record IsOnShelf (s : RunState) (v : ℕ) (m : MediumView) : Type 0 where
  pub free : is_mounted s.history v ≡ false
  pub place : medium_at s.shelf v ≡ Some m

-- a tape that is mounted has its medium with the drive whose open mount that is
pub record IsWithDrive (s : RunState) (v : ℕ) (m : MediumView) : Type 0 where
  pub drive : ℕ
  pub mount : ℕ
  pub way : Direction
  pub still : IsMountAt s.history drive mount way v
  pub state : DriveState
  pub at : slice_get s.drives drive ≡ Some state
  pub has : state.medium ≡ Some m

-- a tape has its medium, by its label, which is on the shelf or with a drive, and where it tells its records is true for the history: so each place of a file on the tape
-- names a record that was flushed, of the file's length and SHA-256
pub record HasMedium (s : RunState) (v : ℕ) : Type 0 where
  pub medium : MediumView
  pub is : IsMediumOf s.history v medium
  pub place : IsOnShelf s v medium ⊎ IsWithDrive s v medium

-- so has each tape of the site
abbrev pub AllTapesHaveMedia : RunState → Type 0
AllTapesHaveMedia s = (v : ℕ) → v < length s.site.tapes.items → HasMedium s v

-- ---- jobs

-- each job that a Failed of the history names, and that has not ended, stands in its queue again right behind it, in order of birth, file and copy
abbrev pub ReturnsJobs : Site → History → Type 0
ReturnsJobs site h =
    (newer older : History) (e : Entry) (m : ℕ) (fault : Fault) (charged returned : Listed Job) (j : Job) → h ≡ newer ++ e ∷ older → e.ask ≡ ask.Failed m fault charged returned
    → has_job j (charged.items ++ returned.items) ≡ true → is_live_job site (e ∷ older) j ≡ true → IsQueued site (e ∷ older) j

-- behind the End of a mount each live job stands in its queue, or another open mount claims it
abbrev pub LeavesNoJob : Site → History → Type 0
LeavesNoJob site h =
    (newer older : History) (e : Entry) (m : ℕ) (fault : Option Fault) (j : Job) → h ≡ newer ++ e ∷ older → e.ask ≡ ask.End m fault → is_live_job site (e ∷ older) j ≡ true
    → IsQueued site (e ∷ older) j ⊎ ((x : IsClaimed site (e ∷ older) j) × (x.mount ≢ m))

-- ---- reads

-- a line says that other bytes than the file's were read
abbrev pub says_mismatch : StepLine → Bool
says_mismatch (line.Read s end.Mismatch) = true
says_mismatch _ = false

-- no call of the device failed
abbrev pub NoFault : Option Done → Type 0
NoFault (Some (done.Fault c)) = ⊥
NoFault _ = Unit {0}

-- the item that is read next in a phase, none where nothing is read
abbrev pub item_in : Phase → Option Item
item_in (Reading x items at) = slice_get items at
item_in _ = None

-- the item that a drive reads next, none where it reads none
abbrev pub item_at : Option DriveState → Option Item
item_at None = None
item_at (Some d) = item_in d.phase

-- a step that reads an item of a live job, and whose device doesn't fail, says done
abbrev pub ReadsDone : RunState → ℕ → ℕ → Option Done → Type 0
ReadsDone s drive moment heard =
    (i : Item) → item_at (slice_get s.drives drive) ≡ Some i → is_live_job s.site s.history i.job ≡ true → NoFault heard → HasCarriedOut (kept_in s) moment (row_at s drive heard)
    → line_at s drive moment heard ≡ Some (line.Read i.fseq end.Done)

-- ---- steps

-- the medium of a drive, if it has one, tells its records
abbrev pub IsTelling : Option MediumView → Type 0
IsTelling None = Unit {0}
IsTelling (Some m) = IsSome m.records

-- what a drive has read of its next item, where it has a medium: the item's content, or one that is told as a mismatch with its sum and the item's; and where the drive
-- tells its plan and the medium its records, these are the item's bytes, altered exactly where the plan says so
abbrev pub HasGivenNext : DriveState → Option MediumView → Option Done → Type 0
HasGivenNext d None heard = Unit {0}
HasGivenNext d (Some m) heard = HasGiven m d.seen (item_in d.phase) heard

-- each tape has its medium behind what a row asks
abbrev pub HaveMediaBehind : RunState → ℕ → ℕ → DriveView → Option MediumView → Option Row → Type 0
HaveMediaBehind s drive moment seen left None = Unit {0}
HaveMediaBehind s drive moment seen left (Some r) = AllTapesHaveMedia (behind_row s drive moment seen left (Some r))

-- what each step keeps: it asks what a session may ask; its line says what the device answered; each tape has its medium behind it; what is read is told truly; a medium
-- that tells still does; and of a medium that tells an honest drive, which stays so, gives no mismatch
pub record IsSoundStep (s : RunState) (drive moment : ℕ) (heard : Option Done) (seen : DriveView) (left : Option MediumView) : Type 0 where
  pub fit : IsRowFit (kept_in s) (row_at s drive heard)
  pub said : (l : StepLine) → line_at s drive moment heard ≡ Some l → IsSaid l heard
  pub media : HaveMediaBehind s drive moment seen left (row_at s drive heard)
  pub given : (d : DriveState) → slice_get s.drives drive ≡ Some d → HasGivenNext d d.medium heard
  pub tells : (d : DriveState) → slice_get s.drives drive ≡ Some d → IsTelling d.medium → IsTelling left
  pub honest : (d : DriveState) → slice_get s.drives drive ≡ Some d → IsTelling d.medium → d.seen.honest ≡ true → (seen.honest ≡ true) × NoMismatch heard

-- what happens keeps it, if it is a step
abbrev pub IsSound : RunState → Happening → Type 0
IsSound s (Answered link moment exchange) = Unit {0}
IsSound s (Stepped drive moment heard seen left) = IsSoundStep s drive moment heard seen left

-- all that happens keeps it
abbrev pub AreSound : RunState → List Happening → Type 0
AreSound s [] = Unit {0}
AreSound s (h ∷ hs) = IsSound s h × AreSound (run_behind s h) hs

-- ---- runs

-- a step in which no mismatch is met: neither the device nor the line tells of one, and what is read of a live job is done
pub record IsReadRight (s : RunState) (drive moment : ℕ) (heard : Option Done) : Type 0 where
  pub none : NoMismatch heard
  pub silent : (l : StepLine) → line_at s drive moment heard ≡ Some l → says_mismatch l ≡ false
  pub reads : ReadsDone s drive moment heard

-- so is what happens, if it is a step of this drive
abbrev pub IsRight : ℕ → RunState → Happening → Type 0
IsRight d s (Answered link moment exchange) = Unit {0}
IsRight d s (Stepped drive moment heard seen left) = drive ≡ d → IsReadRight s drive moment heard

-- in each step of this drive no mismatch is met
abbrev pub ReadsRightly : ℕ → RunState → List Happening → Type 0
ReadsRightly d s [] = Unit {0}
ReadsRightly d s (h ∷ hs) = IsRight d s h × ReadsRightly d (run_behind s h) hs

-- what a run from its start keeps, whichever calls fail: its history is legal, and the laws hold of it; each tape has its medium; jobs that a fault gives back are queued again, and a mount that
-- ends leaves no live job behind; and over a bench that tells, a drive that is honest at first meets no mismatch
pub record KeepsPromises (tells : Bool) (site : Site) (made : Made) (turns : List ScriptTurn) : Type 0 where
  pub legal : IsLegal site (after (begun_with site made) (all_happenings turns)).history
  pub laws : HoldsLaws site (after (begun_with site made) (all_happenings turns)).history
  pub media : AllTapesHaveMedia (after (begun_with site made) (all_happenings turns))
  pub returned : ReturnsJobs site (after (begun_with site made) (all_happenings turns)).history
  pub left : LeavesNoJob site (after (begun_with site made) (all_happenings turns)).history
  pub honest : tells ≡ true → (d : ℕ) (v : DriveView) → slice_get made.drives d ≡ Some v → v.honest ≡ true → ReadsRightly d (begun_with site made) (all_happenings turns)
