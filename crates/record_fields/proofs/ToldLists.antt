-- Lists and optional values are told by their bytes where their elements are.
use Rattle.std.proofs.Common.{◌≡◌, ◌∙◌, if◌then◌else◌, ◌==◌, List, [], ◌∷◌, ℕ, zero, suc, length, Option, None, Some, option_map, map, refl, ap}
use Rattle.std.specs.List.{AllByRecursion}
use Rattle.record_fields.specs.Lists.{each_before, list_before, ListFits, option_before, OptionFits}
use Rattle.record_fields.proofs.ToldNumbers.{told_byte, told_number, number_told}

-- the bytes of a value that fits tell what is plain of it
abbrev pub AreTold : {V W : Type 0} → (V → List ℕ → List ℕ) → (V → Type 0) → (V → W) → (List ℕ → W × List ℕ) → Type 0
AreTold {V} before fits plain told = (v : V) (rest : List ℕ) → fits v → told (before v rest) ≡ (plain v, rest)

abbrev pub added : {W : Type 0} → W → List W × List ℕ → List W × List ℕ
added w p = (w ∷ p.0, p.1)

pub told_each : {W : Type 0} → (List ℕ → W × List ℕ) → ℕ → List ℕ → List W × List ℕ
told_each told zero bytes = ([], bytes)
told_each told (suc n) bytes = added (told bytes).0 (told_each told n (told bytes).1)

each_told : {V W : Type 0} (before : V → List ℕ → List ℕ) (fits : V → Type 0) (plain : V → W) (told : List ℕ → W × List ℕ) → AreTold before fits plain told → (vs : List V) (rest : List ℕ) → AllByRecursion fits vs → told_each told (length vs) (each_before before vs rest) ≡ (map plain vs, rest)
unfolding told_each
each_told before fits plain told law [] rest all = refl
each_told before fits plain told law (v ∷ vs) rest all =
    ap (λ p. added p.0 (told_each told (length vs) p.1)) (law v (each_before before vs rest) all.0)
    ∙ ap (λ p. added (plain v) p) (each_told before fits plain told law vs rest all.1)

pub told_list : {W : Type 0} → (List ℕ → W × List ℕ) → List ℕ → List W × List ℕ
told_list told bytes = told_each told (told_number bytes).0 (told_number bytes).1

pub plain_list_told : {V W : Type 0} (before : V → List ℕ → List ℕ) (fits : V → Type 0) (plain : V → W) (told : List ℕ → W × List ℕ) → AreTold before fits plain told → (vs : List V) (rest : List ℕ) → ListFits fits vs → told_list told (list_before before vs rest) ≡ (map plain vs, rest)
unfolding told_list
plain_list_told before fits plain told law vs rest fit =
    ap (λ p. told_each told p.0 p.1) (number_told (length vs) (each_before before vs rest) fit.0) ∙ each_told before fits plain told law vs rest fit.1

same_items : {V : Type 0} (vs : List V) → map (λ v. v) vs ≡ vs
same_items [] = refl
same_items (v ∷ vs) = ap (λ xs. v ∷ xs) (same_items vs)

pub list_told : {V : Type 0} (before : V → List ℕ → List ℕ) (fits : V → Type 0) (told : List ℕ → V × List ℕ) → AreTold before fits (λ v. v) told → (vs : List V) (rest : List ℕ) → ListFits fits vs → told_list told (list_before before vs rest) ≡ (vs, rest)
list_told before fits told law vs rest fit = plain_list_told before fits (λ v. v) told law vs rest fit ∙ ap (λ xs. (xs, rest)) (same_items vs)

abbrev pub there : {W : Type 0} → W × List ℕ → Option W × List ℕ
there p = (Some p.0, p.1)

abbrev optional_at : {W : Type 0} → (List ℕ → W × List ℕ) → ℕ → List ℕ → Option W × List ℕ
optional_at told n bytes = if n == 0 then (None, bytes) else there (told bytes)

pub told_option : {W : Type 0} → (List ℕ → W × List ℕ) → List ℕ → Option W × List ℕ
told_option told bytes = optional_at told (told_byte bytes).0 (told_byte bytes).1

pub plain_option_told : {V W : Type 0} (before : V → List ℕ → List ℕ) (fits : V → Type 0) (plain : V → W) (told : List ℕ → W × List ℕ) → AreTold before fits plain told → (v : Option V) (rest : List ℕ) → OptionFits fits v → told_option told (option_before before v rest) ≡ (option_map plain v, rest)
unfolding told_option
plain_option_told before fits plain told law None rest fit = refl
plain_option_told before fits plain told law (Some v) rest fit = ap there (law v rest fit)

pub option_told : {V : Type 0} (before : V → List ℕ → List ℕ) (fits : V → Type 0) (told : List ℕ → V × List ℕ) → AreTold before fits (λ v. v) told → (v : Option V) (rest : List ℕ) → OptionFits fits v → told_option told (option_before before v rest) ≡ (v, rest)
unfolding told_option
option_told before fits told law None rest fit = refl
option_told before fits told law (Some v) rest fit = ap there (law v rest fit)
