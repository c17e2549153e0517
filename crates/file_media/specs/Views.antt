-- What drives and media over files show.
use Rattle.std.specs.Prelude.{ℕ, ◌-◌, ◌≡◌, ◌≤◌, List, Bool, true, false, None, min}
use Rattle.blob.specs.Records.{MediumView}
use Rattle.media.specs.Counted.{no_counts}
use Rattle.media.specs.Drives.{DriveView}
use Rattle.file_media.specs.declared.tally.Tally.{Tally}
use Rattle.file_media.specs.declared.file_drive.FileDrive.{FileDrive}
use Rattle.file_media.specs.declared.file_medium.FileMedium.{FileMedium}

-- a drive that tells no plan, and doesn't promise that its files give what was written
abbrev pub tally_view : Tally → DriveView
tally_view t = record { loaded = t.loaded; honest = false; calls = t.calls; faults = t.faults; plan = None }

-- a drive that is not loaded and was not called
abbrev pub new_view : DriveView
new_view = record { loaded = false; honest = false; calls = 0; faults = no_counts; plan = None }

-- a drive over files
abbrev pub file_view : {D : Type 0} → FileDrive D → DriveView
file_view d = tally_view d.tally

-- the disk of a drive
abbrev pub disk_of : {D : Type 0} → FileDrive D → D
disk_of d = d.disk

-- whether no write and no sync has failed since the drive was loaded
abbrev pub is_clean : {D : Type 0} → FileDrive D → Bool
is_clean d = d.clean

-- the label of a medium over files, which tells no records
abbrev pub file_medium : FileMedium → MediumView
file_medium m = record { label = m.tape; records = None }

-- the VID of a medium's tape
abbrev pub medium_vid : FileMedium → List ℕ
medium_vid m = m.vid

-- whether each load is a Fault, since the folder may hold records of earlier processes that the bench doesn't go on with
abbrev pub is_foreign : FileMedium → Bool
is_foreign m = m.foreign

-- the last fSeq at which there may be a file of the tape that a write drops, of this process or of those that it goes on with, 0 where none
abbrev pub last_written : FileMedium → ℕ
last_written m = m.written

-- the last fSeq whose record is safe, 0 where none
abbrev pub last_safe : FileMedium → ℕ
last_safe m = m.safe

-- the last fSeq of a record, safe or pending, 0 where none
abbrev pub last_record : FileMedium → ℕ
last_record m = m.records

-- a medium begins with the records up to the fSeq n, all of them safe, and with no file behind them
abbrev pub BeginsAt : ℕ → FileMedium → Type 0
BeginsAt n m = (last_written m ≡ n) × (last_record m ≡ n) × (last_safe m ≡ n)

-- what a write at the fSeq s leaves of the places: that record is the last one, and a safe one before it stays safe; after a fault there are no more than before
abbrev pub IsWrittenAt : ℕ → FileMedium → FileMedium → Bool → Type 0
IsWrittenAt s old new true = (new.written ≡ s) × (new.records ≡ s) × (new.safe ≡ min old.safe (s - 1))
IsWrittenAt s old new false = (new.written ≤ old.written) × (new.records ≤ old.records) × (new.safe ≤ old.safe)

-- a flush makes all records safe, and a fault changes nothing
abbrev pub IsFlushed : FileMedium → FileMedium → Bool → Type 0
IsFlushed old new true = new ≡ record old { safe = old.records }
IsFlushed old new false = new ≡ old

-- an unload drops the records that are not safe; their files stay
abbrev pub unloaded_medium : FileMedium → FileMedium
unloaded_medium m = record m { records = m.safe }
