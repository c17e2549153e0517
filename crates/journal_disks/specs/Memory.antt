-- What a disk in memory gives, and what a crash may leave of it.
use Rattle.std.specs.Prelude.{ℕ, List}
use Rattle.journal_disks.specs.Events.{Leaves}
use Rattle.journal_disks.specs.declared.memory.MemDisk.{MemDisk}

-- what a read of a disk gives
abbrev pub disk_bytes : MemDisk → List ℕ
disk_bytes d = d.kept.bytes

-- the numbers of the calls that are to fail
abbrev pub disk_failing : MemDisk → List ℕ
disk_failing d = d.plan.failing.items

-- how many calls were made
abbrev pub disk_calls : MemDisk → ℕ
disk_calls d = d.plan.calls

-- how many of them failed
abbrev pub disk_faults : MemDisk → ℕ
disk_faults d = d.plan.faults

-- what a crash may leave now
abbrev pub MayLeave : MemDisk → List ℕ → Type 0
MayLeave d = Leaves d.kept
