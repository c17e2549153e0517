-- The paths of a mill's files.
use Rattle.std.specs.Prelude.{ℕ, ◌≡◌, ◌<◌, ◌⊎◌, List, map}
use Rattle.std.specs.List.{range_with_len}
use Rattle.load_mill.specs.Files.{big_path, file_path}

-- the paths of so many files, in the order of their indices
abbrev pub file_paths : ℕ → List (List ℕ)
file_paths n = map file_path (range_with_len 0 n)

-- a path is that of the file that fills the buffer, or of one of so many files
abbrev pub IsMillPath : List ℕ → ℕ → Type 0
IsMillPath path n = (path ≡ big_path) ⊎ ((k : ℕ) × (k < n) × (path ≡ file_path k))
