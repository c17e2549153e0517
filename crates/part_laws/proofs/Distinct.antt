-- Numbers below another, none twice, are at most as many as that.
use Rattle.std.proofs.Common.{◌≡◌, ℕ, zero, suc, ◌≤◌, ◌<◌, inl, inr, List, [], ◌∷◌, true, false, not, refl, sym, ap, subst, arith, length}
use Rattle.std.specs.Prelude.{◌==◌, filter}
use Rattle.std.proofs.lemmas.Bool.{eqb-true}
use Rattle.cta_model.specs.History.{has_number}
use Rattle.cta_laws.proofs.Tests.{bool_cases}
use Rattle.cta_laws.proofs.Claims.{AllOf}
use Rattle.cta_laws.proofs.Sums.{IsDistinct, distinct_filter}

none_gone : (n : ℕ) (xs : List ℕ) → has_number n xs ≡ false → length (filter (λ m. not (n == m)) xs) ≡ length xs
none_gone n [] e = refl
none_gone n (x ∷ xs) e =
    elim (bool_cases (n == x)) [
      | inl hit ↦ (let bad : true ≡ false = rw hit at e in absurd (cc))
      | inr miss ↦ rw miss (ap suc (none_gone n xs (rw miss at e)))
    ]

-- a number that is taken out of a list with none twice makes it shorter by one at most
gone_one : (n : ℕ) (xs : List ℕ) → IsDistinct xs → length xs ≤ suc (length (filter (λ m. not (n == m)) xs))
gone_one n [] d = omega arith
gone_one n (x ∷ xs) d =
    elim (bool_cases (n == x)) [
      | inl hit ↦ rw hit (let none : has_number n xs ≡ false = subst (λ (k : ℕ). has_number k xs ≡ false) (sym (eqb-true n x hit)) d.0 in omega (arith, none_gone n xs none))
      | inr miss ↦ rw miss (omega (arith, gone_one n xs d.1))
    ]

lower : (n x : ℕ) → (n == x) ≡ false → x < suc n → x < n
lower n x e low = grind arith

below_gone : (n : ℕ) (xs : List ℕ) → AllOf (λ m. m < suc n) xs → AllOf (λ m. m < n) (filter (λ m. not (n == m)) xs)
below_gone n [] all = tt
below_gone n (x ∷ xs) all =
    elim (bool_cases (n == x)) [
      | inl hit ↦ rw hit (below_gone n xs all.1)
      | inr miss ↦ rw miss (lower n x miss all.0, below_gone n xs all.1)
    ]

pub few_below : (n : ℕ) (xs : List ℕ) → IsDistinct xs → AllOf (λ m. m < n) xs → length xs ≤ n
few_below zero [] d all = omega arith
few_below zero (x ∷ xs) d all = (let low : x < 0 = all.0 in absurd (omega arith))
few_below (suc n) xs d all =
    let less : length xs ≤ suc (length (filter (λ m. not (n == m)) xs)) = gone_one n xs d in
    let rest : length (filter (λ m. not (n == m)) xs) ≤ n = few_below n (filter (λ m. not (n == m)) xs) (distinct_filter (λ m. not (n == m)) xs d) (below_gone n xs all) in
    omega arith
