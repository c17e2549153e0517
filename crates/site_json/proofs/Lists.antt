-- Lists of which each element passes a test.
use Rattle.std.proofs.Common.{◌≡◌, ◌∙◌, ◌+◌, ◌<◌, ◌∷◌, ℕ, zero, suc, List, [], Bool, true, Some, None, length, get_or, refl, sym, ap, inl, inr, map, not, arith}
use Rattle.std.proofs.lemmas.Bool.{cases_Bool}
use Rattle.std.proofs.lemmas.Iterator.Adapters.{position_from-zero}
use Rattle.std.specs.List.{position_from}
use Rattle.serde_json.specs.Data.{Data}
use Rattle.serde_json.specs.View.{items_of}
use Rattle.cta_site.specs.Items.{first_failing}
use Rattle.serde_json.specs.Find.{get, as_array}
use Rattle.site_json.specs.Members.{elements, list_at}

elements-items_of : (ds : List Data) → elements (items_of ds) ≡ ds
elements-items_of [] = refl
elements-items_of (d ∷ ds) = ap (λ l. d ∷ l) (elements-items_of ds)

-- a member that is an array is a list
pub listed : (name : List ℕ) (d m : Data) (ds : List Data) → Some m ≡ get name d → Some (items_of ds) ≡ as_array m → Some ds ≡ list_at name d
unfolding list_at
listed name d m ds found array = rw (← found, ← array, elements-items_of) refl

from_zero : {A : Type 0} (test : A → Bool) (xs : List A) → first_failing test xs ≡ position_from (λ x. not (test x)) 0 xs
from_zero test xs = position_from-zero (λ x. not (test x)) xs

from-map : {A B : Type 0} (test : B → Bool) (f : A → B) (i : ℕ) (xs : List A) → position_from (λ x. not (test x)) i (map f xs) ≡ position_from (λ x. not (test (f x))) i xs
from-map test f i [] = refl
from-map test f i (x ∷ xs) =
    elim (cases_Bool (test (f x))) [
      | inl hit ↦ rw hit (from-map test f (i + 1) xs)
      | inr miss ↦ rw miss refl
    ]

pub first_failing-map : {A B : Type 0} (test : B → Bool) (f : A → B) (xs : List A) → first_failing test (map f xs) ≡ first_failing (λ x. test (f x)) xs
first_failing-map test f xs = from_zero test (map f xs) ∙ from-map test f 0 xs ∙ sym (from_zero (λ x. test (f x)) xs)

pass_from : {A : Type 0} (test : A → Bool) (n : ℕ) (xs : List A) (i : ℕ) (d : A) → i < length xs → position_from (λ x. not (test x)) n xs ≡ None → test (get_or xs i d) ≡ true
pass_from test n [] i d low e = absurd (omega arith)
pass_from test n (x ∷ xs) zero d low e =
    elim (cases_Bool (test x)) [
      | inl hit ↦ hit
      | inr miss ↦ let bad : Some n ≡ None = rw miss at e in absurd (cc)
    ]
pass_from test n (x ∷ xs) (suc i) d low e =
    elim (cases_Bool (test x)) [
      | inl hit ↦ pass_from test (n + 1) xs i d (omega arith) (rw hit at e)
      | inr miss ↦ let bad : Some n ≡ None = rw miss at e in absurd (cc)
    ]

-- where no element fails, the one at each place passes
pub pass_at : {A B : Type 0} (test : B → Bool) (f : A → B) (xs : List A) (i : ℕ) (d : A) → i < length xs → first_failing test (map f xs) ≡ None → test (f (get_or xs i d)) ≡ true
pass_at test f xs i d low e = pass_from (λ x. test (f x)) 0 xs i d low (sym (from_zero (λ x. test (f x)) xs) ∙ sym (first_failing-map test f xs) ∙ e)

none_from : {A B : Type 0} (p : A → Bool) (q : B → Bool) (f : A → B) → ((x : A) → p x ≡ true → q (f x) ≡ true) → (n : ℕ) (xs : List A)
    → position_from (λ x. not (p x)) n xs ≡ None → position_from (λ x. not (q x)) n (map f xs) ≡ None
none_from p q f step n [] e = refl
none_from p q f step n (x ∷ xs) e =
    elim (cases_Bool (p x)) [
      | inl hit ↦ let kept : q (f x) ≡ true = step x hit in rw kept (none_from p q f step (n + 1) xs (rw hit at e))
      | inr miss ↦ let bad : Some n ≡ None = rw miss at e in absurd (cc)
    ]

-- where no element fails, what is made of them passes
pub none_failing : {A B : Type 0} (p : A → Bool) (q : B → Bool) (f : A → B) (xs : List A) → ((x : A) → p x ≡ true → q (f x) ≡ true) → first_failing p xs ≡ None → first_failing q (map f xs) ≡ None
none_failing p q f xs step e = from_zero q (map f xs) ∙ none_from p q f step 0 xs (sym (from_zero p xs) ∙ e)

pub ruleset places = (first_failing-map)
