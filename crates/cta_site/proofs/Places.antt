-- Names that ascend name one place each.
use Rattle.std.proofs.Common.{◌≡◌, ◌<◌, ℕ, zero, suc, List, [], ◌∷◌, true, false, Some, length, refl, sym, ap, arith, inl, inr, map}
use Rattle.std.proofs.lemmas.Bool.{cases_Bool, lt-ltb}
use Rattle.std.proofs.lemmas.Option.{slice_get_within}
use Rattle.std.proofs.lemmas.Slice.Eq.{bytes_eq-Decides}
use Rattle.std.specs.Prelude.{bytes_eq, slice_get, nat_lt}
use Rattle.std.specs.List.{AllByRecursion, position_or_len}
use Rattle.std.specs.List.Sorted.{IsStrictlySortedBy}
use Rattle.std.specs.declared.cmp.Ordering.TheVariants.{Less}
use Rattle.std.specs.Ordering.{nat_cmp}
use Rattle.std.specs.Cmp.Lexicographic.{slice_cmp, nat_list_cmp_total}
use Rattle.cta_site.specs.Names.{AreAscending}
use Rattle.cta_site.specs.Lookups.{place_by}

never_below_itself : (a : List ℕ) → slice_cmp nat_cmp a a ≡ Less → ⊥
never_below_itself a e = let turned = nat_list_cmp_total.antisymm a a in cc

apart : (a b : List ℕ) → slice_cmp nat_cmp a b ≡ Less → bytes_eq a b ≡ false
apart a b e =
    elim (cases_Bool (bytes_eq a b)) [
      | inl hit ↦ absurd (never_below_itself a (rw (sym ((bytes_eq-Decides a b).0 hit)) at e))
      | inr miss ↦ miss
    ]

below_item : {A : Type 0} (name : A → List ℕ) (key : List ℕ) (xs : List A) (i : ℕ) (x : A) → AllByRecursion (λ y. slice_cmp nat_cmp key y ≡ Less) (map name xs) → slice_get xs i ≡ Some x → slice_cmp nat_cmp key (name x) ≡ Less
below_item name key [] i x below e = absurd (cc)
below_item name key (y ∷ ys) zero x below e = let same : y ≡ x = cc in rw same at below.0
below_item name key (y ∷ ys) (suc i) x below e = below_item name key ys i x below.1 e

first_at : {A : Type 0} (name : A → List ℕ) (xs : List A) (i : ℕ) (x : A) → AreAscending (map name xs) → slice_get xs i ≡ Some x → position_or_len (λ y. bytes_eq (name y) (name x)) xs ≡ i
unfolding IsStrictlySortedBy
first_at name [] i x up e = absurd (cc)
first_at name (y ∷ ys) zero x up e =
    let same : y ≡ x = cc in
    let hit : bytes_eq (name y) (name x) ≡ true = (bytes_eq-Decides (name y) (name x)).1 (ap name same) in
    rw hit refl
first_at name (y ∷ ys) (suc i) x up e =
    let miss : bytes_eq (name y) (name x) ≡ false = apart (name y) (name x) (below_item name (name y) ys i x up.0 e) in
    rw (miss, first_at name ys i x up.1 e) (omega arith)

-- where the names ascend, an item's name names its place
pub place_of_name : {A : Type 0} (name : A → List ℕ) (xs : List A) (i : ℕ) (x : A) → AreAscending (map name xs) → slice_get xs i ≡ Some x → place_by name xs (name x) ≡ Some i
place_of_name name xs i x up e =
    let low : i < length xs = slice_get_within xs i x e in
    let least : nat_lt i (length xs) ≡ true = lt-ltb i (length xs) low in
    rw (first_at name xs i x up e, least) refl
