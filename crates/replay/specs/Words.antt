-- The words of the command line.
use Rattle.std.specs.Prelude.{◌≡◌, ℕ, List, [], ◌∷◌, codes}
use Rattle.cta_words.specs.Words.{IsPlainWord}

-- the words `replay SITE`
abbrev pub IsReplayForm : List (List ℕ) → Type 0
IsReplayForm [] = ⊥
IsReplayForm (word ∷ []) = ⊥
IsReplayForm (word ∷ site ∷ []) = (word ≡ codes "replay") × IsPlainWord site
IsReplayForm (word ∷ site ∷ more ∷ words) = ⊥
