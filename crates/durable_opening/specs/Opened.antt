-- What comes of taking up the archive of a site from its journal.
use Rattle.std.specs.Prelude.{◌≡◌, ⊤, ℕ, List, Option, IfSome, map}
use Rattle.cta_site.specs.declared.site.Site.{Site}
use Rattle.outside.specs.Causes.{Rose}
use Rattle.cta_journal.specs.Damage.{IsDamaged}
use Rattle.cta_journal.specs.Log.{HasLog}
use Rattle.cta_journal.specs.Standing.{StandsFor}
use Rattle.cta_records.specs.declared.kept.Kept.{Kept}
use Rattle.cta_records.specs.Records.{KeptFits, body_of}
use Rattle.archive_restore.specs.Logs.{IsFirstWrong, IsRightLog, history_of_log}
use Rattle.archive_opening.specs.Seen.{SourceView}
use Rattle.archive_opening.specs.SiteFile.{NoSite, ReadsSite}
use Rattle.archive_opening.specs.declared.status.Status.{Status}
use Rattle.archive_opening.specs.declared.status.Status.TheVariants as status
use Rattle.durable_archive.specs.declared.opening.ReopenError.{ReopenError}
use Rattle.durable_archive.specs.declared.opening.ReopenError.TheVariants as error
use Rattle.durable_archive.specs.Journaled.{LoggedView}
use Rattle.durable_opening.specs.Closing.{GoesOnByClosing}

-- the whole site file was read, and tells a site that keeps the rules
abbrev pub ReadsSomeSite : SourceView → SourceView → Type 0
ReadsSomeSite a b = (site : Site) × ReadsSite a b site

-- the status of a journal that isn't taken up
abbrev pub status_by : ReopenError → Status
status_by error.Fault = status.JournalFault
status_by (error.Damaged offset) = status.JournalDamaged offset
status_by (error.Differs entry) = status.JournalDiffers entry
status_by error.NoMemory = status.NoMemory

-- the record of this number is the first wrong one of a file's log
abbrev pub DiffersAt : Site → ℕ → List ℕ → Type 0
DiffersAt site entry file = (log : List Kept) × HasLog file (map body_of log) × IsFirstWrong site log entry

-- When each status comes where the archive of a site isn't taken up: by what the disk told at first, where it tells, and by how often it had failed before and behind.
-- Want of memory may come at any time
abbrev pub EndsTakingUp : Status → Site → Option (List ℕ) → ℕ → ℕ → Type 0
EndsTakingUp status.JournalFault site told before behind = Rose before behind
EndsTakingUp (status.JournalDamaged offset) site told before behind = IfSome told (λ file. IsDamaged body_of KeptFits file offset)
EndsTakingUp (status.JournalDiffers entry) site told before behind = IfSome told (DiffersAt site entry)
EndsTakingUp status.NoMemory site told before behind = ⊤
EndsTakingUp _ site told before behind = ⊥

-- the same with the reading of the site file, by the file before and after
abbrev pub EndsOpening : Status → SourceView → SourceView → Option (List ℕ) → ℕ → ℕ → Type 0
EndsOpening (status.Site rule item) a b told before behind = NoSite (status.Site rule item) a b × (behind ≡ before)
EndsOpening status.ReadFault a b told before behind = NoSite status.ReadFault a b × (behind ≡ before)
EndsOpening status.NoMemory a b told before behind = ⊤
EndsOpening why a b told before behind = (site : Site) × ReadsSite a b site × EndsTakingUp why site told before behind

-- an archive comes from the log of a file: its history is the one that the log tells, none of whose records is wrong, with what closed the mounts that were open there; and
-- its journal stood for that log at first
pub record IsTakenUp {K : Type 0} (content : K → Option (List ℕ)) (may_leave : K → List ℕ → Type 0) (file : List ℕ) (logged : LoggedView K) : Type 0 where
  pub log : List Kept
  pub found : HasLog file (map body_of log)
  pub right : IsRightLog logged.archive.site log
  pub history : GoesOnByClosing logged.archive.site (history_of_log log) logged.archive.history
  pub begun : StandsFor content may_leave logged.first (map body_of log)
