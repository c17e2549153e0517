-- The drives of an archive in turns.
use Rattle.std.specs.Prelude.{◌≡◌, ◌≢◌, ◌≤◌, ⊤, ◌++◌, List, Option, Some, None, Ok, length, reverse}
use Rattle.std.specs.List.{AllByRecursion}
use Rattle.blob.specs.Records.{MediumView}
use Rattle.cta_site.specs.declared.site.Site.{Site}
use Rattle.cta_model.specs.declared.answers.Answer.TheVariants as answer
use Rattle.cta_model.specs.declared.answers.Refusal.TheVariants as refusal
use Rattle.cta_model.specs.declared.entries.Entry.{Entry}
use Rattle.media.specs.Drives.{DriveView}
use Rattle.drive_session.specs.declared.reports.StepLine.{StepLine}
use Rattle.drive_session.specs.declared.session.Memo.{Memo}
use Rattle.turn_hall.specs.declared.view.Made.{Made}
use Rattle.turn_hall.specs.declared.view.View.{View}
use Rattle.archive_turns.specs.declared.calls.ArchiveBack.{ArchiveBack}
use Rattle.archive_turns.specs.declared.calls.ArchiveBack.TheVariants as back
use Rattle.archive_turns.specs.declared.calls.ArchiveCall.{ArchiveCall}
use Rattle.archive_turns.specs.declared.calls.ArchiveCall.TheVariants as call
use Rattle.archive_turns.specs.Plays.{call_adds}
use Rattle.archive_turns.specs.Topics.{topic_of}
use Rattle.archive.specs.InOrder.{IsLegalInOrder, PlaysInOrder}
use Rattle.drive_turns.specs.declared.front.Came.{Came}
use Rattle.drive_turns.specs.declared.front.Came.TheVariants as came
use Rattle.drive_turns.specs.Seats.{IsSeated}
use Rattle.drive_turns.specs.Turns.{IsDriveTurn}

-- what a session hears of what came back in a turn of an archive: all that comes back from an ask
abbrev pub heard_of : {M : Type 0} → ArchiveBack M → Option (Came M (Unit {0}))
heard_of (back.Ask r) = Some (came.Back r)
heard_of (back.Look r) = None

-- what came back is not that an ask is unknown
abbrev pub IsNotUnknown : {M : Type 0} → ArchiveBack M → Type 0
IsNotUnknown (back.Ask (Ok (a, out))) = a ≢ answer.Refused refusal.Unknown
IsNotUnknown _ = ⊤

-- one call was added to the pass's own or none, and what came back from it is not that the ask is unknown
pub record AddsAKnownAsk {M : Type 0} (v w : View Site Entry (ArchiveCall M) (ArchiveBack M)) : Type 0 where
  pub more : List (Made (ArchiveCall M) (ArchiveBack M))
  pub added : w.mine ≡ v.mine ++ more
  pub one : length more ≤ 1
  pub known : AllByRecursion (λ (x : Made (ArchiveCall M) (ArchiveBack M)). IsNotUnknown x.back) more

module _ {M : Type 0} (told : M → MediumView) where
  -- session and drive are seated with a pass of an archive's hall
  abbrev pub IsSeatedAt : Site → View Site Entry (ArchiveCall M) (ArchiveBack M) → Memo M → DriveView → Type 0
  IsSeatedAt site v m d = IsSeated told reverse topic_of call_adds site v m d

  -- one step of a drive in turns of an archive, with its line
  abbrev pub IsArchiveTurn : Site → View Site Entry (ArchiveCall M) (ArchiveBack M) → View Site Entry (ArchiveCall M) (ArchiveBack M) → Memo M → Memo M → DriveView → DriveView → StepLine → Type 0
  IsArchiveTurn site v w m m' d d' l = IsDriveTurn told call.Ask heard_of (IsLegalInOrder site) (PlaysInOrder told site) topic_of call_adds v w m m' d d' (Ok l)

  -- no ask of a drive is unknown
  abbrev pub NoAskIsUnknown : Type 0
  NoAskIsUnknown =
      (site : Site) (v w : View Site Entry (ArchiveCall M) (ArchiveBack M)) (m m' : Memo M) (d d' : DriveView) (l : StepLine) → IsArchiveTurn site v w m m' d d' l → AddsAKnownAsk v w
