-- Texts that are all the same.
use Rattle.std.specs.Prelude.{ℕ, ◌≡◌, List, [], ◌∷◌}

-- each of these texts is this one
abbrev pub AreAll : List ℕ → List (List ℕ) → Type 0
AreAll t [] = Unit {0}
AreAll t (x ∷ xs) = (x ≡ t) × AreAll t xs
