-- What contracts see of a medium.
use Rattle.std.specs.Prelude.{ℕ, List, Option, None, option_map}
use Rattle.std.specs.List.{slice_index_or}
use Rattle.blob.specs.declared.sum.Sum256.{Sum256}

-- a medium's records in their order, each by the sum of its content: the k-th has the fSeq k, from 1; the first `safe` of them are safe, and those behind are pending
pub record TapeRecords : Type 0 where
  pub records : List Sum256
  pub safe : ℕ

-- a medium: the number of the tape whose medium it is, which stands on its label, and its records, where it tells them
pub record MediumView : Type 0 where
  pub label : ℕ
  pub records : Option TapeRecords

-- the same medium with its records changed, where it tells them
abbrev pub with_records : (TapeRecords → TapeRecords) → MediumView → MediumView
with_records change m = record m { records = option_map change m.records }

-- media by the numbers of their tapes: the one at a place, none where the place is empty or is not there
abbrev pub medium_at : List (Option MediumView) → ℕ → Option MediumView
medium_at places v = slice_index_or places v None
