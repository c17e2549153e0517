-- What a disk over a file of the machine shows: its count of faults, and nothing of content.
use Rattle.std.specs.Prelude.{ℕ}
use Rattle.std.specs.declared.fs.TryLockError.{TryLockError}
use Rattle.std.specs.declared.fs.TryLockError.TheVariants as tried
use Rattle.journal_disks.specs.declared.file_disk.FileDisk.{FileDisk}
use Rattle.journal_disks.specs.declared.file_disk.FileErr.{FileErr}
use Rattle.journal_disks.specs.declared.file_disk.FileErr.TheVariants as told

-- how often calls on it have failed
abbrev pub file_faults : FileDisk → ℕ
file_faults d = d.faults

-- another holds the lock exactly where the machine would have to wait
abbrev pub lock_error : TryLockError → FileErr
lock_error tried.WouldBlock = told.InUse
lock_error (tried.Error e) = told.Fault
