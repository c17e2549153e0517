-- The contents that are kept.
use Rattle.std.specs.Prelude.{ℕ, List, map}
use Rattle.blob.specs.declared.sum.Sum256.{Sum256}
use Rattle.blob.specs.Sums.{sum_of}
use Rattle.disk_buffer.specs.declared.arrivals.StoredFile.{StoredFile}

-- the sums of what is kept, by file
abbrev pub contents_of : List (ℕ × StoredFile) → List (ℕ × Sum256)
contents_of es = map (λ (e : ℕ × StoredFile). (e.0, sum_of e.1.blob.value)) es
