-- Lemmas of tests and of lists.
use Rattle.std.proofs.Common.{◌≡◌, ℕ, ◌+◌, ◌≤◌, ◌⊎◌, inl, inr, List, [], ◌∷◌, ◌++◌, Bool, true, false, ◌||◌, not, refl, arith}
use Rattle.std.specs.Prelude.{◌==◌}
use Rattle.std.specs.List.{list_any}
use Rattle.std.proofs.lemmas.Bool.Decides.{eqb_tells}

pub bool_cases : (t : Bool) → (t ≡ true) ⊎ (t ≡ false)
bool_cases true = inl refl
bool_cases false = inr refl

pub not_false : (b : Bool) → not b ≡ false → b ≡ true
not_false true e = refl
not_false false e = absurd (cc)

pub or_left : (a b : Bool) → a ≡ true → (a || b) ≡ true
or_left true b e = refl
or_left false b e = absurd (cc)

pub or_right : (a b : Bool) → b ≡ true → (a || b) ≡ true
or_right true b e = refl
or_right false b e = e

pub or_cases : (a b : Bool) → (a || b) ≡ true → (a ≡ true) ⊎ (b ≡ true)
or_cases true b e = inl refl
or_cases false b e = inr e

-- a number that is not above n is not the next
pub not_next : (m n : ℕ) → m ≤ n → (m == n + 1) ≡ false
not_next m n low = elim (eqb_tells m (n + 1)) [ inl x ↦ (let bad : m ≡ n + 1 = x.1 in absurd (omega arith)) | inr x ↦ x.0 ]

pub next_not : (m n : ℕ) → m ≤ n → (n + 1 == m) ≡ false
next_not m n low = elim (eqb_tells (n + 1) m) [ inl x ↦ (let bad : n + 1 ≡ m = x.1 in absurd (omega arith)) | inr x ↦ x.0 ]

pub any_append : {A : Type 0} (test : A → Bool) (xs ys : List A) → (list_any test xs ≡ true) ⊎ (list_any test ys ≡ true) → list_any test (xs ++ ys) ≡ true
any_append test [] ys e = elim e [ inl a ↦ absurd (cc) | inr a ↦ a ]
any_append test (x ∷ xs) ys e =
    elim (bool_cases (test x)) [
      | inl hit ↦ or_left (test x) _ hit
      | inr miss ↦ or_right (test x) _ (any_append test xs ys (elim e [ inl a ↦ inl (rw miss at a) | inr a ↦ inr a ]))
    ]
