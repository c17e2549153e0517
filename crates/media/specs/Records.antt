-- What calls leave of a medium: its records alone may change, and never its label.
use Rattle.std.specs.Prelude.{ℕ, ◌+◌, ◌-◌, ◌≡◌, ◌≤◌, min, [], ◌∷◌, ◌++◌, length, take, Option, Some, None, IfSome}
use Rattle.blob.specs.declared.sum.Sum256.{Sum256}
use Rattle.blob.specs.Records.{MediumView, TapeRecords, with_records}
use Rattle.media.specs.declared.drive.DeviceErr.{DeviceErr}
use Rattle.media.specs.declared.drive.DeviceErr.TheVariants as err

-- a medium with no records
abbrev pub no_records : TapeRecords
no_records = record { records = []; safe = 0 }

-- a medium that keeps its first n records
abbrev pub cut : ℕ → TapeRecords → TapeRecords
cut n t = record { records = take n t.records; safe = min n t.safe }

-- a write at the fSeq s drops the records from s on, and adds one that is pending
abbrev pub written : ℕ → Sum256 → TapeRecords → TapeRecords
written s sum t = record { records = take (s - 1) t.records ++ sum ∷ []; safe = min (s - 1) t.safe }

-- a flush makes all records safe
abbrev pub flushed : TapeRecords → TapeRecords
flushed t = record t { safe = length t.records }

-- an unload drops the pending records
abbrev pub unloaded : TapeRecords → TapeRecords
unloaded t = cut t.safe t

-- the records are cut somewhere, and at least so many of the first are kept
abbrev pub IsCut : (TapeRecords → ℕ) → MediumView → MediumView → Type 0
IsCut least old new = (n : TapeRecords → ℕ) × ((t : TapeRecords) → least t ≤ n t) × (new ≡ with_records (λ t. cut (n t) t) old)

-- what a write leaves: after a fault the records below s, and perhaps some behind them
abbrev pub HasWritten : ℕ → Sum256 → MediumView → MediumView → Option DeviceErr → Type 0
HasWritten s sum old new None = new ≡ with_records (written s sum) old
HasWritten s sum old new (Some err.Fault) = IsCut (λ _. s - 1) old new
HasWritten s sum old new (Some err.NoMemory) = new ≡ old

-- what a flush leaves: after a fault the safe records, and perhaps some behind them
abbrev pub HasFlushed : MediumView → MediumView → Option DeviceErr → Type 0
HasFlushed old new None = new ≡ with_records flushed old
HasFlushed old new (Some e) = IsCut (λ t. t.safe) old new

-- a write needs an fSeq from 1 to one more than the records, where they are told
abbrev pub MayWrite : ℕ → MediumView → Type 0
MayWrite s m = (1 ≤ s) × IfSome m.records (λ t. s ≤ length t.records + 1)
