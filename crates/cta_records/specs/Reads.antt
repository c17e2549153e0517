-- What reading gives of the bytes at which a record should begin.
use Rattle.std.specs.Prelude.{◌≡◌, ℕ, List, ◌++◌, ◌⊎◌, ◌<◌, length}
use Rattle.record_fields.specs.Numbers.{long_number, IsLong}
use Rattle.cta_records.specs.Records.{content, body_of, record_of, PartsFit, KeptFits}
use Rattle.cta_records.specs.declared.kept.Kept.{Kept}
use Rattle.cta_records.specs.declared.kept.RecordRead.{RecordRead}
use Rattle.cta_records.specs.declared.kept.RecordRead.TheVariants as read

-- the bytes begin with this record
abbrev pub Begins : List ℕ → Kept → Type 0
Begins bytes kept = KeptFits kept × ((rest : List ℕ) × (bytes ≡ record_of kept ++ rest))

-- no record stands at the front of the bytes
abbrev pub NoneBegins : List ℕ → Type 0
NoneBegins bytes = (kept : Kept) → Begins bytes kept → ⊥

-- no record begins with the bytes
abbrev pub NoneGoesOn : List ℕ → Type 0
NoneGoesOn bytes = (kept : Kept) (rest : List ℕ) → KeptFits kept → bytes ++ rest ≡ record_of kept → ⊥

-- the bytes are the body of no record
abbrev pub IsNoBody : List ℕ → Type 0
IsNoBody bytes = (kept : Kept) → PartsFit kept → bytes ≡ body_of kept → ⊥

-- the bytes begin with a length and as many bytes as it says
abbrev pub HasBody : List ℕ → List ℕ → Type 0
HasBody bytes body = IsLong (length body) × ((rest : List ℕ) × (bytes ≡ content body rest))

-- the length is not whole, or fewer bytes follow than it says
abbrev pub IsShort : List ℕ → Type 0
IsShort bytes = (length bytes < 8) ⊎ ((n : ℕ) × (rest : List ℕ) × IsLong n × (bytes ≡ long_number n rest) × (length rest < n))

-- too few bytes come only where the length says so; a record with the number of its bytes, only where it stands; and neither, only where none stands and none goes on from the bytes
abbrev pub Reads : List ℕ → RecordRead → Type 0
Reads bytes read.Need = IsShort bytes × NoneBegins bytes
Reads bytes (read.Record kept len) = Begins bytes kept × (len ≡ length (record_of kept))
Reads bytes read.Bad = (IsShort bytes → ⊥) × NoneBegins bytes × NoneGoesOn bytes
