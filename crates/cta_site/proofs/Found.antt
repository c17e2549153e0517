-- Elements that are found by their place.
use Rattle.std.proofs.Common.{◌≡◌, ◌∙◌, ◌+◌, ◌<◌, ◌≤◌, ℕ, List, [], ◌∷◌, ◌++◌, Bool, true, false, Option, Some, None, length, take, get_or, refl, sym, ap, arith, cond, inl, inr, map}
use Rattle.std.proofs.lemmas.Bool.{cases_Bool}
use Rattle.std.proofs.lemmas.Bool.Decides.{nat_tests}
use Rattle.std.proofs.lemmas.Iterator.Adapters.{position_from-zero}
use Rattle.std.proofs.lemmas.List.{take_more, length-take-le}
use Rattle.std.proofs.lemmas.List.Folds.{find_at}
use Rattle.std.proofs.lemmas.Option.{slice_get_past}
use Rattle.std.specs.Prelude.{bytes_eq, find, slice_get, nat_lt, is_some}
use Rattle.std.specs.Option.{option_or, option_and_then}
use Rattle.std.specs.List.{AllByRecursion, position, position_from, position_or_len}
use Rattle.std.specs.Cmp.Lexicographic.{nat_list_eq_equiv}
use Rattle.cta_site.specs.Items.{is_among}

-- the place of one more, where none before it passes
from_push : {A : Type 0} (p : A → Bool) (i : ℕ) (xs : List A) (y : A) → position_from p i (xs ++ y ∷ []) ≡ option_or (position_from p i xs) (cond (p y) (Some (i + length xs)) None)
from_push p i [] y = ap (λ n. cond (p y) (Some n) None) (omega arith)
from_push p i (x ∷ xs) y =
    elim (cases_Bool (p x)) [
      | inl hit ↦ rw hit refl
      | inr miss ↦
          let further : i + 1 + length xs ≡ i + length (x ∷ xs) = omega arith in
          rw miss (from_push p (i + 1) xs y ∙ ap (λ n. option_or (position_from p (i + 1) xs) (cond (p y) (Some n) None)) further)
    ]

pub position-push : {A : Type 0} (p : A → Bool) (xs : List A) (y : A) → position p (xs ++ y ∷ []) ≡ option_or (position p xs) (cond (p y) (Some (length xs)) None)
position-push p xs y =
    position_from-zero p (xs ++ y ∷ []) ∙ from_push p 0 xs y
    ∙ ap (λ o. option_or o (cond (p y) (Some (0 + length xs)) None)) (sym (position_from-zero p xs))
    ∙ ap (λ n. option_or (position p xs) (cond (p y) (Some n) None)) (omega arith)

-- the item at the first place is the first item
pub found_at : {A : Type 0} (p : A → Bool) (xs : List A) → option_and_then (slice_get xs) (position p xs) ≡ find p xs
found_at p xs =
    elim (cases_Bool (nat_lt (position_or_len p xs) (length xs))) [
      | inl low ↦ rw low (sym (find_at p xs))
      | inr high ↦
          let past : length xs ≤ position_or_len p xs = grind (arith, nat_tests) in
          rw high (sym (find_at p xs ∙ slice_get_past xs (position_or_len p xs) past))
    ]

-- a name is among those of a list where an item of it has the name
pub among_found : {A : Type 0} (name : A → List ℕ) (key : List ℕ) (xs : List A) → is_among (map name xs) key ≡ is_some (find (λ x. bytes_eq (name x) key) xs)
among_found name key [] = refl
among_found name key (x ∷ xs) =
    let turned : bytes_eq (name x) key ≡ bytes_eq key (name x) = nat_list_eq_equiv.symm (name x) key in
    elim (cases_Bool (bytes_eq key (name x))) [
      | inl hit ↦ let here : bytes_eq (name x) key ≡ true = turned ∙ hit in rw (hit, here) refl
      | inr miss ↦ let there : bytes_eq (name x) key ≡ false = turned ∙ miss in rw (miss, there) (among_found name key xs)
    ]

-- one more item of a list is its next
pub position_more : {A : Type 0} (p : A → Bool) (xs : List A) (i : ℕ) (x : A) → i < length xs → x ≡ get_or xs i x → position p (take (i + 1) xs) ≡ option_or (position p (take i xs)) (cond (p x) (Some i) None)
position_more p xs i x low here =
    let fits : i ≤ length xs = omega arith in
    let more : take (i + 1) xs ≡ take i xs ++ x ∷ [] = take_more xs i x low ∙ ap (λ y. take i xs ++ y ∷ []) (sym here) in
    ap (position p) more ∙ position-push p (take i xs) x ∙ ap (λ n. option_or (position p (take i xs)) (cond (p x) (Some n) None)) (length-take-le i xs fits)

-- no place means that no item passes
none_from : {A : Type 0} (p : A → Bool) (i : ℕ) (xs : List A) → position_from p i xs ≡ None → AllByRecursion (λ x. p x ≡ false) xs
none_from p i [] e = tt
none_from p i (x ∷ xs) e =
    elim (cases_Bool (p x)) [
      | inl hit ↦ let bad : Some i ≡ None = rw hit at e in absurd (cc)
      | inr miss ↦ (miss, none_from p (i + 1) xs (rw miss at e))
    ]

pub none_passes : {A : Type 0} (p : A → Bool) (xs : List A) → position p xs ≡ None → AllByRecursion (λ x. p x ≡ false) xs
none_passes p xs e = none_from p 0 xs (sym (position_from-zero p xs) ∙ e)

-- a place that was found so far, with the next item
pub place_next : {A : Type 0} (p : A → Bool) (xs : List A) (i : ℕ) (x : A) (old new : Option ℕ) (b : Bool) → i < length xs → x ≡ get_or xs i x → p x ≡ b → old ≡ position p (take i xs) → new ≡ option_or old (cond b (Some i) None) → new ≡ position p (take (i + 1) xs)
place_next p xs i x old new b low here passes was is =
    is ∙ ap (λ o. option_or o (cond b (Some i) None)) was ∙ ap (λ t. option_or (position p (take i xs)) (cond t (Some i) None)) (sym passes) ∙ sym (position_more p xs i x low here)

-- the same where the next item does not pass
pub place_same : {A : Type 0} (p : A → Bool) (xs : List A) (i : ℕ) (x : A) (old : Option ℕ) → i < length xs → x ≡ get_or xs i x → p x ≡ false → old ≡ position p (take i xs) → old ≡ position p (take (i + 1) xs)
place_same p xs i x old low here fails was = place_next p xs i x old old false low here fails was (sym (or_none old))
  where
    or_none : (o : Option ℕ) → option_or o None ≡ o
    or_none None = refl
    or_none (Some n) = refl
