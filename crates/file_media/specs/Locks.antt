-- Why a folder's lock isn't taken.
use Rattle.std.specs.declared.fs.TryLockError.{TryLockError}
use Rattle.std.specs.declared.fs.TryLockError.TheVariants as tried
use Rattle.file_media.specs.declared.folder_lock.LockErr.{LockErr}
use Rattle.file_media.specs.declared.folder_lock.LockErr.TheVariants as told

-- another holds it exactly where the machine would have to wait
abbrev pub lock_error : TryLockError → LockErr
lock_error tried.WouldBlock = told.InUse
lock_error (tried.Error e) = told.Fault
