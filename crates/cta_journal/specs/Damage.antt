-- Where the log of a file can't be read.
use Rattle.std.specs.Prelude.{◌≡◌, ◌⊎◌, ℕ, ◌≤◌, List, All, ◌∷◌, ◌++◌, length, map}
use Rattle.cta_journal.specs.Log.{counted, records}
use Rattle.cta_journal.specs.Records.{NoneBegins}

-- the most records that a log may have
abbrev pub most_records : ℕ
most_records = 4194304

-- behind an open gate no record begins, or the record there is whole and no byte follows it, or as many records came before as a log may have
abbrev pub CantGoOn : {V : Type 0} → (V → List ℕ) → (V → Type 0) → List ℕ → ℕ → Type 0
CantGoOn {V} body fits behind count = NoneBegins body fits behind ⊎ ((last : V) × fits last × (behind ≡ counted (body last))) ⊎ (count ≡ most_records)

-- A file of at least two bytes has records up to the open gate at `offset`, and can't go on there.
pub record IsDamaged {V : Type 0} (body : V → List ℕ) (fits : V → Type 0) (file : List ℕ) (offset : ℕ) : Type 0 where
  pub before : List V
  pub behind : List ℕ
  pub long : 2 ≤ length file
  pub split : file ≡ records (map body before) ++ 1 ∷ behind
  pub fit : All fits before
  pub few : length before ≤ most_records
  pub at : offset ≡ length (records (map body before))
  pub why : CantGoOn body fits behind (length before)
