-- The files that a request is made of.
use Rattle.std.specs.Prelude.{ℕ, ◌≡◌, List, [], ◌∷◌, Option, Some, None, Bool, false, bytes_eq, length}
use Rattle.std.specs.List.{list_any}
use Rattle.cta_model.specs.declared.states.StageFile.{StageFile}
use Rattle.cta_model.specs.History.{is_number}
use Rattle.cta_model.specs.Stages.{StageRequest}

-- whether one of them is this file
abbrev pub has_file : ℕ → List StageFile → Bool
has_file f files = list_any (λ (s : StageFile). is_number f s.file) files

-- whether one of them has this path
abbrev pub has_path : List ℕ → List StageFile → Bool
has_path path files = list_any (λ (s : StageFile). bytes_eq path s.path) files

-- a file that is none of these, or no file at all
abbrev pub IsOther : Option ℕ → List StageFile → Type 0
IsOther None files = Unit {0}
IsOther (Some f) files = has_file f files ≡ false

-- no file is among them twice
abbrev pub AreApart : List StageFile → Type 0
AreApart [] = Unit {0}
AreApart (s ∷ ss) = IsOther s.file ss × AreApart ss

-- no path is among them twice
abbrev pub ArePathsApart : List StageFile → Type 0
ArePathsApart [] = Unit {0}
ArePathsApart (s ∷ ss) = (has_path s.path ss ≡ false) × ArePathsApart ss

-- how many files a request has, 0 where there is none
abbrev pub count_of : Option StageRequest → ℕ
count_of None = 0
count_of (Some r) = length r.files
