-- The contents of a mill's files.
use Rattle.std.specs.Prelude.{ℕ, ◌≡◌, ◌^◌, ◌%◌, List, map, sum, sum_by}
use Rattle.std.specs.List.{range_with_len}
use Rattle.blob.specs.declared.sum.Sum256.{Sum256}
use Rattle.blob.specs.Sums.{sum_of}
use Rattle.load_mill.specs.Files.{file_bytes, file_len}

-- the sum of the file of this index: its length and its SHA-256
abbrev pub file_sum : ℕ → ℕ → Sum256
file_sum seed k = sum_of (file_bytes seed k)

-- the sums of so many files, from an index on
abbrev pub file_sums : ℕ → ℕ → ℕ → List Sum256
file_sums seed from count = map (file_sum seed) (range_with_len from count)

-- the bytes of so many files, from the first on
abbrev pub bytes_of : ℕ → ℕ → ℕ
bytes_of seed files = sum_by (file_len seed) (range_with_len 0 files)

-- the total is that of the bytes of some content with this sum
pub record HasTotal (s : Sum256) (total : ℕ) : Type 0 where
  pub content : List ℕ
  pub is : sum_of content ≡ s
  pub adds_up : total ≡ sum content % 2 ^ 64

-- the total is that of the bytes of contents, one for each of these sums, in their order
pub record AreFetched (sums : List Sum256) (total : ℕ) : Type 0 where
  pub contents : List (List ℕ)
  pub are : map sum_of contents ≡ sums
  pub adds_up : total ≡ sum_by sum contents % 2 ^ 64
