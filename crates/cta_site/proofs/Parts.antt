-- The parts of a text that is cut at its first slash.
use Rattle.std.specs.Prelude.{◌≡◌, ℕ, refl, List, [], ◌∷◌, ◌++◌, Bool, true, false, ◌&&◌}
use Rattle.std.proofs.Common.{ap, ◌∙◌, inl, inr}
use Rattle.std.specs.List.{list_all}
use Rattle.std.proofs.lemmas.Bool.Decides.{eqb_tells}
use Rattle.cta_site.specs.Paths.{is_part, parts_of, onto_first, are_parts}
use Rattle.cta_site.specs.Bytes.{Without}

parts_of-cut : (part rest : List ℕ) → Without 47 part → parts_of (part ++ 47 ∷ rest) ≡ part ∷ parts_of rest
parts_of-cut [] rest without = refl
parts_of-cut (b ∷ part) rest without =
    elim (eqb_tells b 47) [
      | inl slash ↦ absurd (without.0 slash.1)
      | inr other ↦ rw other.0 (ap (onto_first b) (parts_of-cut part rest without.1))
    ]

parts_of-one : (part : List ℕ) → Without 47 part → parts_of part ≡ part ∷ []
parts_of-one [] without = refl
parts_of-one (b ∷ part) without =
    elim (eqb_tells b 47) [
      | inl slash ↦ absurd (without.0 slash.1)
      | inr other ↦ rw other.0 (ap (onto_first b) (parts_of-one part without.1))
    ]

pub are_parts-cut : (bytes part rest : List ℕ) → Without 47 part → bytes ≡ part ++ 47 ∷ rest → are_parts bytes ≡ (is_part part && are_parts rest)
are_parts-cut bytes part rest without cut = rw cut (ap (list_all is_part) (parts_of-cut part rest without))

and_true : (a : Bool) → (a && true) ≡ a
and_true true = refl
and_true false = refl

pub are_parts-one : (part : List ℕ) → Without 47 part → are_parts part ≡ is_part part
are_parts-one part without = ap (list_all is_part) (parts_of-one part without) ∙ and_true (is_part part)

pub ruleset part_by_part = (are_parts-cut, are_parts-one)
