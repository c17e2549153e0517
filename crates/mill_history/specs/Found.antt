-- How far a loop over the entries has found the Puts of the files.
use Rattle.std.specs.Prelude.{ℕ, zero, suc, ◌≡◌, ◌≢◌, ◌<◌, ◌⊎◌, List, [], ◌∷◌, length, Option, Some, None, Bool, true, false, slice_get, get_or, set, bytes_eq}
use Rattle.blob.specs.declared.sum.Sum256.{Sum256}
use Rattle.cta_model.specs.History.{History}
use Rattle.load_mill.specs.Files.{big_path, file_path}
use Rattle.mill_history.specs.Paths.{IsMillPath}
use Rattle.mill_history.specs.Puts.{puts_of}

-- the one Put of this number, none where the number is 0
abbrev pub put_of : ℕ → Sum256 → List (ℕ × Sum256)
put_of zero s = []
put_of (suc n) s = (suc n, s) ∷ []

-- the files with these sums were put at most once, these are the numbers of their Puts, 0 where there is none, and no path was put but theirs
-- and the big one
pub record AreFound (h : History) (sums : List Sum256) (numbers : List ℕ) : Type 0 where
  pub count : length numbers ≡ length sums
  pub puts : (k : ℕ) (s : Sum256) → slice_get sums k ≡ Some s → puts_of h (file_path k) ≡ put_of (get_or numbers k 0) s
  pub others : (path : List ℕ) → puts_of h path ≢ [] → IsMillPath path (length sums)

-- whether a Put is of the big file
abbrev pub puts_big : Option (List ℕ × Sum256) → Bool
puts_big None = false
puts_big (Some p) = bytes_eq p.0 big_path

-- a Put of a file was noted: one of these files, of which there was none
pub record IsFileNoted (old new : List ℕ) (n : ℕ) (p : List ℕ × Sum256) (sums : List Sum256) : Type 0 where
  pub index : ℕ
  pub path : p.0 ≡ file_path index
  pub within : index < length sums
  pub sum : slice_get sums index ≡ Some p.1
  pub was_none : get_or old index 0 ≡ 0
  pub is : new ≡ set old index n

-- what an ask puts was noted: nothing, the big file, or a file
abbrev pub IsPutNoted : List ℕ → List ℕ → ℕ → Option (List ℕ × Sum256) → List Sum256 → Type 0
IsPutNoted old new n None sums = new ≡ old
IsPutNoted old new n (Some p) sums = ((new ≡ old) × (bytes_eq p.0 big_path ≡ true)) ⊎ IsFileNoted old new n p sums
