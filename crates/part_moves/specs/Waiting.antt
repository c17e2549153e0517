-- The entries that wait for recalls.
use Rattle.std.specs.Prelude.{ℕ, List, [], ◌∷◌, ◌++◌, Option, map}
use Rattle.cta_model.specs.RepackItems.{waiting_for}
use Rattle.cta_model.specs.Recalls.{Recall}

-- these entries, each with the file
abbrev pub with_file : ℕ → List ℕ → List (ℕ × ℕ)
with_file f ids = map (λ (id : ℕ). (id, f)) ids

-- the entries that wait for the recalls of these files, each with the file
abbrev pub waits_for_all : (ℕ → Option Recall) → List ℕ → List (ℕ × ℕ)
waits_for_all recalls [] = []
waits_for_all recalls (f ∷ fs) = with_file f (waiting_for (recalls f)) ++ waits_for_all recalls fs
