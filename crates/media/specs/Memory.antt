-- Drives and media in memory, which tell everything.
use Rattle.std.specs.Prelude.{ℕ, Bool, List, Some, false, map, not}
use Rattle.std.specs.Arc.{arc_value}
use Rattle.std.specs.List.{list_any}
use Rattle.blob.specs.Records.{MediumView, TapeRecords}
use Rattle.blob.specs.Sums.{sum_of}
use Rattle.media.specs.declared.planned.Planned.{Planned}
use Rattle.media.specs.declared.mem_drive.MemDrive.{MemDrive}
use Rattle.media.specs.declared.mem_medium.MemMedium.{MemMedium}
use Rattle.media.specs.Counted.{no_counts}
use Rattle.media.specs.Drives.{DriveView}
use Rattle.media.specs.Records.{no_records}

-- whether a plan alters no read
abbrev pub alters_none : List Planned → Bool
alters_none entries = not (list_any (λ (p : Planned). p.alter) entries)

-- a drive in memory tells its plan, and is honest exactly where the plan alters no read
abbrev pub mem_drive : MemDrive → DriveView
mem_drive d = record { loaded = d.loaded; calls = d.calls; honest = alters_none d.plan.items; faults = d.faults; plan = Some (record { entries = d.plan.items; made = d.made }) }

-- what a medium in memory has of records
abbrev pub mem_tape : MemMedium → TapeRecords
mem_tape m = record { records = map (λ b. sum_of (arc_value b)) m.records.items; safe = m.safe }

-- a medium in memory tells its records
abbrev pub mem_medium : MemMedium → MediumView
mem_medium m = record { label = m.tape; records = Some (mem_tape m) }

-- a drive with this plan that is not loaded and made no call
abbrev pub new_drive : List Planned → DriveView
new_drive plan = record { loaded = false; calls = 0; honest = alters_none plan; faults = no_counts; plan = Some (record { entries = plan; made = no_counts }) }

-- the medium of this tape with no records
abbrev pub new_medium : ℕ → MediumView
new_medium tape = record { label = tape; records = Some no_records }
