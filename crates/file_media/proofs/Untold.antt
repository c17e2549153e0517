-- What calls leave of a medium that tells no records.
use Rattle.std.proofs.Common.{◌≡◌, ℕ, ◌-◌, ap, arith}
use Rattle.std.specs.Prelude.{Option, Some, None}
use Rattle.blob.specs.declared.sum.Sum256.{Sum256}
use Rattle.blob.specs.Records.{MediumView}
use Rattle.media.specs.declared.drive.DeviceErr.{DeviceErr}
use Rattle.media.specs.declared.drive.DeviceErr.TheVariants as err
use Rattle.media.specs.Records.{HasWritten}
use Rattle.file_media.specs.declared.file_medium.FileMedium.{FileMedium}
use Rattle.file_media.specs.Views.{file_medium}

-- a medium with this label that tells no records
abbrev untold : ℕ → MediumView
untold label = record { label = label; records = None }

pub none_written : (s : ℕ) (sum : Sum256) (a b : FileMedium) (e : Option DeviceErr) → b.tape ≡ a.tape → HasWritten s sum (file_medium a) (file_medium b) e
none_written s sum a b None same = ap untold same
none_written s sum a b (Some err.Fault) same = (λ t. s - 1, λ t. omega arith, ap untold same)
none_written s sum a b (Some err.NoMemory) same = ap untold same
