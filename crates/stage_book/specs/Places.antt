-- The places of the files of a request, by their numbers.
use Rattle.std.specs.Prelude.{ℕ, ◌≡◌, List, [], ◌∷◌, Option, Some, None, Bool, false, slice_get, map, if◌then◌else◌, ◌==◌}
use Rattle.std.specs.List.{list_any}
use Rattle.std.specs.Map.{lookup}
use Rattle.cta_model.specs.declared.states.RequestFile.{RequestFile}
use Rattle.cta_model.specs.declared.states.StageFile.{StageFile}
use Rattle.cta_model.specs.History.{is_number}

-- places by file
abbrev pub Places : Type 0
Places = List (ℕ × ℕ)

-- the place of a file
abbrev pub place_in : Places → ℕ → Option ℕ
place_in ps f = lookup (λ k. f == k) ps

-- the files that these paths named, none for a path that named none
abbrev pub numbers_in : List RequestFile → List (Option ℕ)
numbers_in files = map (λ (s : RequestFile). s.file) files

-- the files that a request is asked for, none for a path that named none
abbrev pub numbers_asked : List StageFile → List (Option ℕ)
numbers_asked files = map (λ (s : StageFile). s.file) files

-- whether a file is one of these
abbrev pub names_file : ℕ → List (Option ℕ) → Bool
names_file f numbers = list_any (is_number f) numbers

-- a file with a place is there, and one without is not among the files
abbrev pub IsPlaced : List (Option ℕ) → ℕ → Option ℕ → Type 0
IsPlaced numbers f None = names_file f numbers ≡ false
IsPlaced numbers f (Some n) = slice_get numbers n ≡ Some (Some f)

-- the place of the file q where a file, or none, is noted at this place and this was the place of q
abbrev pub noted : Option ℕ → ℕ → ℕ → Option ℕ → Option ℕ
noted None place q o = o
noted (Some g) place q o = if g == q then Some place else o

-- no file is among them twice
abbrev pub AreNumbersApart : List (Option ℕ) → Type 0
AreNumbersApart [] = Unit {0}
AreNumbersApart (None ∷ numbers) = AreNumbersApart numbers
AreNumbersApart (Some f ∷ numbers) = (names_file f numbers ≡ false) × AreNumbersApart numbers

-- exactly the files have places, and no file is there twice
pub record ArePlaced (ps : Places) (numbers : List (Option ℕ)) : Type 0 where
  pub placed : (f : ℕ) → IsPlaced numbers f (place_in ps f)
  pub apart : AreNumbersApart numbers
