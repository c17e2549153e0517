-- Names that differ, in order and out of order.
use Rattle.std.proofs.Common.{◌≡◌, ◌∙◌, ◌+◌, ◌∷◌, ◌++◌, ℕ, List, [], Bool, true, false, Some, None, length, refl, sym, ap, cond, inl, inr, map, not, subst}
use Rattle.std.proofs.lemmas.Bool.{cases_Bool}
use Rattle.std.proofs.lemmas.Cmp.{nat_list_cmp_total}
use Rattle.std.proofs.lemmas.Iterator.Adapters.{position_from-zero}
use Rattle.std.proofs.lemmas.List.Kept.{IsStrictlySortedBy-dedup}
use Rattle.std.proofs.lemmas.List.Sorted.{list_any-IsPermutation, IsPermutation-map}
use Rattle.std.proofs.lemmas.Map.Keys.{IsDistinct-IsPermutation}
use Rattle.std.proofs.lemmas.Map.Text.{is_eq-slice_cmp}
use Rattle.std.specs.Prelude.{bytes_eq, IsSome}
use Rattle.std.specs.List.{AllByRecursion, IsDistinct, list_any, position_from, dedup, dedup_from}
use Rattle.std.specs.List.Sorted.{IsPermutation, IsStrictlySortedBy}
use Rattle.std.specs.Cmp.{IsTotalOrder}
use Rattle.std.specs.Cmp.Lexicographic.{slice_cmp, nat_list_eq_equiv}
use Rattle.std.specs.Ordering.{nat_cmp}
use Rattle.std.specs.declared.cmp.Ordering.TheVariants.{Less}
use Rattle.cta_site.specs.Items.{first_failing, first_repeat, repeat_after, is_among}
use Rattle.cta_site.specs.Lookups.{place_by}
use Rattle.cta_site.specs.Names.{AreAscending}
use Rattle.cta_values.specs.ByName.{IsByName}
use Rattle.cta_site.proofs.Sets.{is_among-push, true_from_not}

pub all_map : {A : Type 0} (P Q : A → Type 0) → ((x : A) → P x → Q x) → (xs : List A) → AllByRecursion P xs → AllByRecursion Q xs
all_map P Q f [] all = tt
all_map P Q f (x ∷ xs) all = (f x all.0, all_map P Q f xs all.1)

pub all_named : {A B : Type 0} (name : A → B) (P : B → Type 0) (xs : List A) → AllByRecursion (λ x. P (name x)) xs → AllByRecursion P (map name xs)
all_named name P [] all = tt
all_named name P (x ∷ xs) all = (all.0, all_named name P xs all.1)

-- a name that is not among more is not among fewer, and is not the one more
not_pushed : (n m : List ℕ) (b : Bool) → cond (bytes_eq m n) true b ≡ false → (bytes_eq n m ≡ false) × (b ≡ false)
not_pushed n m b e =
    elim (cases_Bool (bytes_eq m n)) [
      | inl hit ↦ let bad : true ≡ false = rw hit at e in absurd (cc)
      | inr miss ↦ let rest : b ≡ false = rw miss at e in (nat_list_eq_equiv.symm n m ∙ miss, rest)
    ]

pub no_repeat : (seen ns : List (List ℕ)) → repeat_after bytes_eq seen ns ≡ None → AllByRecursion (λ m. is_among seen m ≡ false) ns × IsDistinct bytes_eq ns
unfolding IsDistinct
no_repeat seen [] e = (tt, tt)
no_repeat seen (n ∷ ns) e =
    elim (cases_Bool (is_among seen n)) [
      | inl hit ↦ let bad : Some (length seen) ≡ None = rw hit at e in absurd (cc)
      | inr miss ↦
          let rest = no_repeat (seen ++ n ∷ []) ns (rw miss at e) in
          let apart : AllByRecursion (λ m. (bytes_eq n m ≡ false) × (is_among seen m ≡ false)) ns = all_map (λ m. is_among (seen ++ n ∷ []) m ≡ false) (λ m. (bytes_eq n m ≡ false) × (is_among seen m ≡ false)) (λ m f. not_pushed n m (is_among seen m) (sym (is_among-push seen n m) ∙ f)) ns rest.0 in
          let after : AllByRecursion (λ m. is_among seen m ≡ false) ns = all_map (λ m. (bytes_eq n m ≡ false) × (is_among seen m ≡ false)) (λ m. is_among seen m ≡ false) (λ m f. f.1) ns apart in
          let differ : AllByRecursion (λ m. bytes_eq n m ≡ false) ns = all_map (λ m. (bytes_eq n m ≡ false) × (is_among seen m ≡ false)) (λ m. bytes_eq n m ≡ false) (λ m f. f.0) ns apart in
          ((miss, after), (differ, rest.1))
    ]

-- items by their names
abbrev pub same_name : {A : Type 0} → (A → List ℕ) → A → A → Bool
same_name name x y = bytes_eq (name x) (name y)

all_by_name : {A : Type 0} (name : A → List ℕ) (P : List ℕ → Type 0) (xs : List A) → AllByRecursion P (map name xs) → AllByRecursion (λ x. P (name x)) xs
all_by_name name P [] all = tt
all_by_name name P (x ∷ xs) all = (all.0, all_by_name name P xs all.1)

distinct_items : {A : Type 0} (name : A → List ℕ) (xs : List A) → IsDistinct bytes_eq (map name xs) → IsDistinct (same_name name) xs
unfolding IsDistinct
distinct_items name [] d = tt
distinct_items name (x ∷ xs) d = (all_by_name name (λ n. bytes_eq (name x) n ≡ false) xs d.0, distinct_items name xs d.1)

dedup_whole : {A : Type 0} (same : A → A → Bool) → ((x y : A) → same x y ≡ same y x) → (x : A) (xs : List A) → IsDistinct same (x ∷ xs) → dedup_from same x xs ≡ x ∷ xs
unfolding IsDistinct
dedup_whole same flips x [] d = refl
dedup_whole same flips x (y ∷ ys) d = let miss : same y x ≡ false = flips y x ∙ d.0.0 in rw miss (ap (λ l. x ∷ l) (dedup_whole same flips y ys d.1))

dedup_all : {A : Type 0} (same : A → A → Bool) → ((x y : A) → same x y ≡ same y x) → (xs : List A) → IsDistinct same xs → dedup same xs ≡ xs
unfolding IsDistinct
dedup_all same flips [] d = refl
dedup_all same flips (x ∷ xs) d = dedup_whole same flips x xs d

by_name_total : {A : Type 0} (name : A → List ℕ) → IsTotalOrder (λ (x y : A). slice_cmp nat_cmp (name x) (name y))
by_name_total name = record {
  antisymm = λ x y. nat_list_cmp_total.antisymm (name x) (name y);
  trans = λ x y z. nat_list_cmp_total.trans (name x) (name y) (name z);
  congr = λ x y z. nat_list_cmp_total.congr (name x) (name y) (name z);
}

strict_names : {A : Type 0} (name : A → List ℕ) (xs : List A) → IsStrictlySortedBy (λ (x y : A). slice_cmp nat_cmp (name x) (name y)) xs → AreAscending (map name xs)
unfolding IsStrictlySortedBy
strict_names name [] s = tt
strict_names name (x ∷ xs) s = (all_named name (λ n. slice_cmp nat_cmp (name x) n ≡ Less) xs s.0, strict_names name xs s.1)

-- names of which none repeats ascend once their items are in order
pub ascending : {A : Type 0} (name : A → List ℕ) (xs ys : List A) → IsPermutation xs ys → IsByName name ys → first_repeat (map name xs) ≡ None → AreAscending (map name ys)
ascending {A} name xs ys moved sorted differ =
    let R = λ (x y : A). slice_cmp nat_cmp (name x) (name y) in
    let apart : IsDistinct (same_name name) ys = IsDistinct-IsPermutation (same_name name) (λ x y. nat_list_eq_equiv.symm (name x) (name y)) xs ys moved (distinct_items name xs (no_repeat [] (map name xs) differ).1) in
    let strict = IsStrictlySortedBy-dedup (by_name_total name) {E = same_name name} (λ x y. sym (is_eq-slice_cmp (name x) (name y))) ys sorted in
    strict_names name ys (subst (IsStrictlySortedBy R) (dedup_all (same_name name) (λ x y. nat_list_eq_equiv.symm (name x) (name y)) ys apart) strict)

-- a name among those of a list is found in it
known_from : {A : Type 0} (name : A → List ℕ) (key : List ℕ) (i : ℕ) (xs : List A) → is_among (map name xs) key ≡ true → IsSome (position_from (λ x. bytes_eq (name x) key) i xs)
known_from name key i [] e = absurd (cc)
known_from name key i (x ∷ xs) e =
    let turned : bytes_eq (name x) key ≡ bytes_eq key (name x) = nat_list_eq_equiv.symm (name x) key in
    elim (cases_Bool (bytes_eq key (name x))) [
      | inl hit ↦ let here : bytes_eq (name x) key ≡ true = turned ∙ hit in rw here refl
      | inr miss ↦ let there : bytes_eq (name x) key ≡ false = turned ∙ miss in rw there (known_from name key (i + 1) xs (rw miss at e))
    ]

pub known_in : {A : Type 0} (name : A → List ℕ) (xs ys : List A) (key : List ℕ) → IsPermutation xs ys → is_among (map name xs) key ≡ true → IsSome (place_by name ys key)
known_in name xs ys key moved e =
    let there : is_among (map name ys) key ≡ true = sym (list_any-IsPermutation (bytes_eq key) (map name xs) (map name ys) (IsPermutation-map name xs ys moved)) ∙ e in
    let found : IsSome (position_from (λ x. bytes_eq (name x) key) 0 ys) = known_from name key 0 ys there in
    subst (λ o. IsSome o) (sym (position_from-zero (λ x. bytes_eq (name x) key) ys)) found

-- no item fails a test where none is found that does
none_fails : {A : Type 0} (p : A → Bool) (i : ℕ) (xs : List A) → position_from p i xs ≡ None → list_any p xs ≡ false
none_fails p i [] e = refl
none_fails p i (x ∷ xs) e =
    elim (cases_Bool (p x)) [
      | inl hit ↦ let bad : Some i ≡ None = rw hit at e in absurd (cc)
      | inr miss ↦ rw miss (none_fails p (i + 1) xs (rw miss at e))
    ]

all_pass : {A : Type 0} (test : A → Bool) (xs : List A) → list_any (λ x. not (test x)) xs ≡ false → AllByRecursion (λ x. test x ≡ true) xs
all_pass test [] e = tt
all_pass test (x ∷ xs) e =
    elim (cases_Bool (not (test x))) [
      | inl hit ↦ let bad : true ≡ false = rw hit at e in absurd (cc)
      | inr miss ↦ (true_from_not (test x) miss, all_pass test xs (rw miss at e))
    ]

-- what no item of a list fails, none of the list in another order fails
pub passes : {A : Type 0} (test : A → Bool) (xs ys : List A) → IsPermutation xs ys → first_failing test xs ≡ None → AllByRecursion (λ x. test x ≡ true) ys
passes test xs ys moved e =
    let none : position_from (λ x. not (test x)) 0 xs ≡ None = sym (position_from-zero (λ x. not (test x)) xs) ∙ e in
    all_pass test ys (sym (list_any-IsPermutation (λ x. not (test x)) xs ys moved) ∙ none_fails (λ x. not (test x)) 0 xs none)
