-- The drives of an archive with a journal, in turns.
use Rattle.std.specs.Prelude.{Option, Some, None, Result, Ok, Err, ⊤, reverse}
use Rattle.blob.specs.Records.{MediumView}
use Rattle.cta_site.specs.declared.site.Site.{Site}
use Rattle.cta_model.specs.declared.entries.Entry.{Entry}
use Rattle.media.specs.Drives.{DriveView}
use Rattle.drive_session.specs.declared.reports.StepLine.{StepLine}
use Rattle.drive_session.specs.declared.session.Memo.{Memo}
use Rattle.turn_hall.specs.declared.view.View.{View}
use Rattle.archive_turns.specs.declared.calls.ArchiveBack.TheVariants as archives
use Rattle.archive_turns.specs.declared.calls.ArchiveCall.{ArchiveCall}
use Rattle.archive_turns.specs.declared.calls.ArchiveCall.TheVariants as call
use Rattle.archive_turns.specs.Topics.{topic_of}
use Rattle.archive.specs.InOrder.{IsLegalInOrder}
use Rattle.drive_turns.specs.declared.front.Came.{Came}
use Rattle.drive_turns.specs.declared.front.Came.TheVariants as came
use Rattle.drive_turns.specs.Seats.{IsSeated}
use Rattle.drive_turns.specs.Turns.{IsDriveTurn}
use Rattle.durable_archive.specs.declared.back.CloseCause.{CloseCause}
use Rattle.durable_archive.specs.declared.back.LoggedBack.{LoggedBack}
use Rattle.durable_archive.specs.declared.back.LoggedBack.TheVariants as back
use Rattle.durable_archive.specs.declared.turns.LoggedSite.{LoggedSite}
use Rattle.durable_archive.specs.Turns.{LoggedPlays, logged_adds}
use Rattle.durable_server.specs.declared.line.DurableLine.{DurableLine}
use Rattle.durable_server.specs.declared.line.DurableLine.TheVariants as line

-- the site of what stays the same
abbrev pub site_within : {K : Type 0} → LoggedSite K → Site
site_within s = s.site

-- what a session hears of what came back: all that comes back from an ask, or that the journal is closed
abbrev pub heard_of : {M : Type 0} → LoggedBack M → Option (Came M CloseCause)
heard_of (back.Answered (archives.Ask r)) = Some (came.Back r)
heard_of (back.Answered (archives.Look r)) = None
heard_of (back.Closed why out added) = Some (came.Stop why)

-- a line, or why there is none
abbrev pub line_of : DurableLine → Result StepLine CloseCause
line_of (line.Line l) = Ok l
line_of (line.Closed why) = Err why

-- that a line came and this holds
abbrev pub IfLine : DurableLine → Type 0 → Type 0
IfLine (line.Line l) holds = holds
IfLine (line.Closed why) holds = ⊤

module _ {M K : Type 0} (told : M → MediumView) where
  -- session and drive are seated with a pass of the hall
  abbrev pub IsSeatedAt : Site → View (LoggedSite K) Entry (ArchiveCall M) (LoggedBack M) → Memo M → DriveView → Type 0
  IsSeatedAt site v m d = IsSeated told reverse topic_of logged_adds site v m d

  -- one step of a drive in turns of an archive with a journal, with its line
  abbrev pub IsDurableTurn : Site → View (LoggedSite K) Entry (ArchiveCall M) (LoggedBack M) → View (LoggedSite K) Entry (ArchiveCall M) (LoggedBack M) → Memo M → Memo M → DriveView → DriveView → DurableLine → Type 0
  IsDurableTurn site v w m m' d d' l = IsDriveTurn told call.Ask heard_of (IsLegalInOrder site) (LoggedPlays told site) topic_of logged_adds v w m m' d d' (line_of l)
