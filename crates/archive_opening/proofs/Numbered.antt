-- Lists whose elements are as their numbers say.
use Rattle.std.proofs.Common.{◌≡◌, ℕ, zero, suc, ◌+◌, ◌<◌, ◌⊎◌, inl, inr, List, [], ◌∷◌, ◌++◌, length, refl, sym, ap, ◌∙◌, subst, arith, length-append}
use Rattle.std.specs.Prelude.{Some, map, slice_get}
use Rattle.std.proofs.lemmas.Option.{none-some, same_Some}

-- so many elements, each of which is as its number says
pub record Numbered {A : Type 0} (P : ℕ → A → Type 0) (count : ℕ) (xs : List A) : Type 0 where
  pub count_is : length xs ≡ count
  pub each : (k : ℕ) (x : A) → slice_get xs k ≡ Some x → P k x

pub numbered_none : {A : Type 0} (P : ℕ → A → Type 0) → Numbered P 0 []
numbered_none P = record { count_is = refl; each = λ k x is. absurd (none-some x is) }

-- what is got of a list with one element more
got_last : {A : Type 0} (xs : List A) (x : A) (k : ℕ) (y : A) → slice_get (xs ++ x ∷ []) k ≡ Some y → (slice_get xs k ≡ Some y) ⊎ ((k ≡ length xs) × (x ≡ y))
got_last [] x zero y is = inr (refl, same_Some x y is)
got_last [] x (suc k) y is = absurd (none-some y is)
got_last (z ∷ xs) x zero y is = inl is
got_last (z ∷ xs) x (suc k) y is =
    elim (got_last xs x k y is) [
      | inl before ↦ inl before
      | inr last ↦ inr (ap suc last.0, last.1)
    ]

pub numbered_more : {A : Type 0} (P : ℕ → A → Type 0) (count : ℕ) (xs : List A) (x : A) → Numbered P count xs → P count x → Numbered P (count + 1) (xs ++ x ∷ [])
numbered_more P count xs x n is = record {
  count_is = omega (arith, length-append xs (x ∷ []), n.count_is);
  each = λ k y at.
      elim (got_last xs x k y at) [
        | inl before ↦ n.each k y before
        | inr last ↦ subst (P k) last.1 (subst (λ j. P j x) (sym (last.0 ∙ n.count_is)) is)
      ];
}

-- what is seen at a place is seen of the element there
pub got_map : {A B : Type 0} (f : A → B) (xs : List A) (k : ℕ) (y : B) → slice_get (map f xs) k ≡ Some y → (x : A) × ((slice_get xs k ≡ Some x) × (f x ≡ y))
got_map f [] k y is = absurd (none-some y is)
got_map f (x ∷ xs) zero y is = (x, (refl, same_Some (f x) y is))
got_map f (x ∷ xs) (suc k) y is = got_map f xs k y is

pub got_within : {A : Type 0} (xs : List A) (k : ℕ) (x : A) → slice_get xs k ≡ Some x → k < length xs
got_within [] k x is = absurd (none-some x is)
got_within (y ∷ xs) zero x is = omega arith
got_within (y ∷ xs) (suc k) x is =
    let low : k < length xs = got_within xs k x is in
    omega (arith, low)
