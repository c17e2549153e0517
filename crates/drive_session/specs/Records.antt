-- Items and the records of a medium.
use Rattle.std.specs.Prelude.{ℕ, ◌+◌, ◌-◌, ◌≡◌, ◌≤◌, ⊤, length, List, [], ◌∷◌, map, take, Some, slice_get}
use Rattle.std.specs.declared.alloc.Global.{Global}
use Rattle.std.specs.declared.sync.Arc.{Arc}
use Rattle.blob.specs.declared.blobs.Blob.{Blob}
use Rattle.blob.specs.declared.sum.Sum256.{Sum256}
use Rattle.blob.specs.Records.{TapeRecords}
use Rattle.cta_model.specs.declared.asks.Item.{Item}
use Rattle.cta_model.specs.Files.{sum_of}
use Rattle.cta_model.specs.Hands.{sum_of_blob}
use Rattle.cta_model.specs.History.{History}
use Rattle.media.specs.Reads.{HasSafe, record_at}

-- each of the items has a record with its sum
abbrev pub AreRecorded : List Sum256 → List Item → Type 0
AreRecorded records [] = ⊤
AreRecorded records (i ∷ is) = (slice_get records (i.fseq - 1) ≡ Some i.sum) × AreRecorded records is

-- each of the items has a safe record with its sum
abbrev pub AreSafe : TapeRecords → List Item → Type 0
AreSafe t [] = ⊤
AreSafe t (i ∷ is) = HasSafe i.fseq t × (record_at t i.fseq ≡ Some i.sum) × AreSafe t is

-- the items have the fSeqs from n in turn
abbrev pub AreNumbered : ℕ → List Item → Type 0
AreNumbered n [] = ⊤
AreNumbered n (i ∷ is) = (i.fseq ≡ n) × AreNumbered (n + 1) is

-- each item is of a file of the history, and has its sum
abbrev pub AreOfFiles : History → List Item → Type 0
AreOfFiles h [] = ⊤
AreOfFiles h (i ∷ is) = (i.job.file ≤ length h) × (i.sum ≡ sum_of h i.job.file) × AreOfFiles h is

-- of a batch behind so many items of its tape, the first so many are recorded
pub record AreWritten (before : ℕ) (items : List Item) (at : ℕ) (t : TapeRecords) : Type 0 where
  pub long : before + at ≤ length t.records
  pub recorded : AreRecorded t.records (take at items)

-- the items of a batch behind so many items of its tape all have a safe record
pub record AreFlushed (before : ℕ) (items : List Item) (t : TapeRecords) : Type 0 where
  pub long : before + length items ≤ t.safe
  pub within : t.safe ≤ length t.records
  pub recorded : AreRecorded t.records items

-- the sums of contents
abbrev pub blob_sums : List (Arc Blob Global) → List Sum256
blob_sums blobs = map sum_of_blob blobs
