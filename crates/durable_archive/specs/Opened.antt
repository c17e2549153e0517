-- What comes of the opening of a journal.
use Rattle.std.specs.Prelude.{ℕ, ⊤, List, map}
use Rattle.cta_site.specs.declared.site.Site.{Site}
use Rattle.cta_journal.specs.Damage.{IsDamaged}
use Rattle.cta_journal.specs.Log.{HasLog}
use Rattle.cta_journal.specs.declared.opening.OpenError.{OpenError}
use Rattle.cta_journal.specs.declared.opening.OpenError.TheVariants as journals
use Rattle.cta_records.specs.declared.kept.Kept.{Kept}
use Rattle.cta_records.specs.Records.{KeptFits, body_of}
use Rattle.archive_restore.specs.declared.error.RestoreError.{RestoreError}
use Rattle.archive_restore.specs.declared.error.RestoreError.TheVariants as restores
use Rattle.archive_restore.specs.Logs.{IsFirstWrong}
use Rattle.durable_archive.specs.declared.opening.ReopenError.{ReopenError}
use Rattle.durable_archive.specs.declared.opening.ReopenError.TheVariants as error

-- an error of the opening, and of the replay
abbrev pub of_open : OpenError → ReopenError
of_open journals.Fault = error.Fault
of_open (journals.Damaged offset) = error.Damaged offset
of_open journals.NoMemory = error.NoMemory

abbrev pub of_restore : RestoreError → ReopenError
of_restore (restores.Differs entry) = error.Differs entry
of_restore restores.NoMemory = error.NoMemory

-- the disk failed, or memory ran out
abbrev pub IsExcused : ReopenError → Type 0
IsExcused error.Fault = ⊤
IsExcused error.NoMemory = ⊤
IsExcused _ = ⊥

-- what an error says of the file of a site's journal
abbrev pub IsRefusedFor : Site → List ℕ → ReopenError → Type 0
IsRefusedFor site file error.Fault = ⊤
IsRefusedFor site file (error.Damaged offset) = IsDamaged body_of KeptFits file offset
IsRefusedFor site file (error.Differs entry) = (log : List Kept) × HasLog file (map body_of log) × IsFirstWrong site log entry
IsRefusedFor site file error.NoMemory = ⊤
