-- The names of files in a folder of records.
use Rattle.std.specs.Prelude.{length, slice_index, ℕ, List, ◌∷◌, ◌++◌, codes, decimal, Bool, true, false, ◌≡◌, ◌≢◌, ◌≤◌}
use Rattle.cta_site.specs.Bytes.{Without}
use Rattle.file_media.specs.declared.disk.FileName.{FileName}

-- the record of a tape at an fSeq: its VID, a dot, which is 46, and the fSeq in digits with no leading zero
abbrev pub record_name : List ℕ → ℕ → List ℕ
record_name vid fseq = vid ++ 46 ∷ decimal fseq

-- what is written of a record that is not whole
abbrev pub part_name : List ℕ → ℕ → List ℕ
part_name vid fseq = record_name vid fseq ++ codes ".part"

-- the text of a name
abbrev pub file_text : FileName → List ℕ
file_text n = text_by n.whole n.vid.now n.fseq
  where
    text_by : Bool → List ℕ → ℕ → List ℕ
    text_by true vid fseq = record_name vid fseq
    text_by false vid fseq = part_name vid fseq

-- the greatest fSeq that a drive can write
abbrev pub greatest_fseq : ℕ
greatest_fseq = 4294967295

-- a name is that of a record, of some tape and fSeq
abbrev pub IsRecordName : List ℕ → Type 0
IsRecordName name = (vid : List ℕ) × ((fseq : ℕ) × ((fseq ≤ greatest_fseq) × (name ≡ record_name vid fseq)))

-- one name is of one record: of one tape and one fSeq
abbrev pub RecordsAreApart : Type 0
RecordsAreApart = (v w : List ℕ) (s t : ℕ) → s ≤ greatest_fseq → t ≤ greatest_fseq → record_name v s ≡ record_name w t → (v ≡ w) × (s ≡ t)

-- what is not whole has the name of no record
abbrev pub PartsAreApart : Type 0
PartsAreApart = (v : List ℕ) (s : ℕ) → IsRecordName (part_name v s) → ⊥

-- the name of the lock is that of no record
abbrev pub LockIsApart : Type 0
LockIsApart = IsRecordName (codes "cta.lock") → ⊥

-- a VID without a slash makes names without one
abbrev pub NamesHaveNoSlash : Type 0
NamesHaveNoSlash = (v : List ℕ) (s : ℕ) → s ≤ greatest_fseq → Without 47 v → Without 47 (record_name v s) × Without 47 (part_name v s)

-- bs begins with no `+`, and with `0` only where that is all
abbrev pub IsPlain : List ℕ → Type 0
IsPlain bs = (slice_index bs 0 ≢ 43) × (slice_index bs 0 ≡ 48 → length bs ≡ 1)
