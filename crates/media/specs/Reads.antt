-- What a read gives.
use Rattle.std.specs.Prelude.{ℕ, ◌+◌, ◌-◌, ◌%◌, ◌≡◌, ◌≤◌, List, [], ◌∷◌, length, Option, IfSome, Bool, true, false, slice_get, Result, IfOk}
use Rattle.blob.specs.declared.sum.Sum256.{Sum256}
use Rattle.blob.specs.Sums.{sum_of}
use Rattle.blob.specs.Records.{MediumView, TapeRecords}
use Rattle.cta_site.specs.declared.site.CallKind.TheVariants as kind
use Rattle.media.specs.declared.drive.DeviceErr.{DeviceErr}
use Rattle.media.specs.Drives.{DriveView, Plan, alters_at}

-- the record of an fSeq, by the sum of its content
abbrev pub record_at : TapeRecords → ℕ → Option Sum256
record_at t s = slice_get t.records (s - 1)

-- the fSeq s has a safe record
pub record HasSafe (s : ℕ) (t : TapeRecords) : Type 0 where
  pub from : 1 ≤ s
  pub safe : s ≤ t.safe
  pub there : s ≤ length t.records

-- a read needs an fSeq with a safe record, where records are told
abbrev pub MayRead : ℕ → MediumView → Type 0
MayRead s m = IfSome m.records (HasSafe s)

-- bytes with the first one raised by 1 modulo 256; no bytes stay none
abbrev pub altered : List ℕ → List ℕ
altered [] = []
altered (b ∷ bs) = ((b + 1) % 256) ∷ bs

-- bytes of a record, altered or not
abbrev pub IsReadOf : Bool → Sum256 → List ℕ → Type 0
IsReadOf false sum bytes = sum_of bytes ≡ sum
IsReadOf true sum bytes = (was : List ℕ) × (sum_of was ≡ sum) × (bytes ≡ altered was)

-- bytes that a drive gives of a record: an honest drive gives what was written, and one that tells its plan alters it exactly where the plan says so
pub record IsReadBy (d : DriveView) (sum : Sum256) (bytes : List ℕ) : Type 0 where
  pub honest : d.honest ≡ true → sum_of bytes ≡ sum
  pub planned : IfSome d.plan (λ (p : Plan). IsReadOf (alters_at kind.Read p.entries p.made) sum bytes)

-- what a read of the fSeq s gives, where records are told
abbrev pub HasRead : DriveView → MediumView → ℕ → Result (List ℕ) DeviceErr → Type 0
HasRead d m s r = IfSome m.records (λ t. IfSome (record_at t s) (λ sum. IfOk r (IsReadBy d sum)))
