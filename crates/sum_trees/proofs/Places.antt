-- Places of entries, and nodes at places.
use Rattle.std.proofs.Common.{◌≡◌, ◌∙◌, ◌<◌, ℕ, zero, suc, List, [], ◌∷◌, ◌++◌, length, Option, Some, None, Bool, true, false, ◌||◌, refl, sym, subst, arith}
use Rattle.std.specs.Prelude.{◌==◌, is_some}
use Rattle.std.specs.List.{slice_get}
use Rattle.std.proofs.Math.ListN.{set}
use Rattle.std.proofs.lemmas.Bool.{eqb-true}
use Rattle.sum_trees.specs.Nodes.{Entry, node_by, node_at, has_place, AreApart}
use Rattle.sum_trees.specs.declared.nodes.Node.{Node}

pub place_append : {T : Type 0} (k : ℕ) (xs ys : List (Entry T)) → has_place k (xs ++ ys) ≡ (has_place k xs || has_place k ys)
place_append k [] ys = refl
place_append k (x ∷ xs) ys = elim (x.0 == k) as (λ b. (b || has_place k (xs ++ ys)) ≡ ((b || has_place k xs) || has_place k ys)) [ true ↦ refl | false ↦ place_append k xs ys ]

pub not_left : (a b : Bool) → (a || b) ≡ false → a ≡ false
not_left true b e = e
not_left false b e = refl

pub not_right : (a b : Bool) → (a || b) ≡ false → b ≡ false
not_right true b e = absurd (cc)
not_right false b e = e

pub neither : (a b : Bool) → a ≡ false → b ≡ false → (a || b) ≡ false
neither true b e f = e
neither false b e f = f

-- what a middle entry of entries that are apart tells
pub record Cut {T : Type 0} (low : List (Entry T)) (e : Entry T) (high : List (Entry T)) : Type 0 where
  pub low_apart : AreApart low
  pub high_apart : AreApart high
  pub not_low : has_place e.0 low ≡ false
  pub not_high : has_place e.0 high ≡ false
  pub low_not : (k : ℕ) → has_place k low ≡ true → has_place k (e ∷ high) ≡ false
  pub high_not : (k : ℕ) → has_place k (e ∷ high) ≡ true → has_place k low ≡ false

pub apart_left : {T : Type 0} (xs ys : List (Entry T)) → AreApart (xs ++ ys) → AreApart xs
apart_left [] ys a = tt
apart_left (x ∷ xs) ys a = (not_left _ _ (sym (place_append x.0 xs ys) ∙ a.0), apart_left xs ys a.1)

pub apart_right : {T : Type 0} (xs ys : List (Entry T)) → AreApart (xs ++ ys) → AreApart ys
apart_right [] ys a = a
apart_right (x ∷ xs) ys a = apart_right xs ys a.1

pub apart_from : {T : Type 0} (xs ys : List (Entry T)) → AreApart (xs ++ ys) → (k : ℕ) → has_place k xs ≡ true → has_place k ys ≡ false
apart_from [] ys a k e = absurd (cc)
apart_from (x ∷ xs) ys a k e =
    elim (x.0 == k) as (λ b. (x.0 == k) ≡ b → (b || has_place k xs) ≡ true → has_place k ys ≡ false) [
      | true ↦ λ is h. subst (λ (j : ℕ). has_place j ys ≡ false) (eqb-true x.0 k is) (not_right _ _ (sym (place_append x.0 xs ys) ∙ a.0))
      | false ↦ λ is h. apart_from xs ys a.1 k h
    ] refl e

pub apart_back : {T : Type 0} (xs ys : List (Entry T)) → AreApart (xs ++ ys) → (k : ℕ) → has_place k ys ≡ true → has_place k xs ≡ false
apart_back xs ys a k e =
    elim (has_place k xs) as (λ b. has_place k xs ≡ b → b ≡ false)
    [ true ↦ λ is. (let no : has_place k ys ≡ false = apart_from xs ys a k is in absurd (cc)) | false ↦ λ is. refl ] refl

pub cut_of : {T : Type 0} (low : List (Entry T)) (e : Entry T) (high : List (Entry T)) → AreApart (low ++ e ∷ high) → Cut low e high
cut_of low e high a = record {
  low_apart = apart_left low (e ∷ high) a;
  high_apart = (apart_right low (e ∷ high) a).1;
  not_low = apart_back low (e ∷ high) a e.0 (here e high);
  not_high = (apart_right low (e ∷ high) a).0;
  low_not = apart_from low (e ∷ high) a;
  high_not = apart_back low (e ∷ high) a;
}
  where
    self : (k : ℕ) (b : Bool) → (k == k || b) ≡ true
    self k b = grind arith

    here : {T : Type 0} (e : Entry T) (es : List (Entry T)) → has_place e.0 (e ∷ es) ≡ true
    here e es = self e.0 (has_place e.0 es)

-- ---- nodes

get_set_same : {A : Type 0} (xs : List A) (i : ℕ) (old new : A) → slice_get xs i ≡ Some old → slice_get (set xs i new) i ≡ Some new
get_set_same [] i old new e = absurd (cc)
get_set_same (x ∷ xs) zero old new e = refl
get_set_same (x ∷ xs) (suc i) old new e = get_set_same xs i old new e

get_set_other : {A : Type 0} (xs : List A) (i k : ℕ) (new : A) → (i == k) ≡ false → slice_get (set xs i new) k ≡ slice_get xs k
get_set_other [] i k new e = refl
get_set_other (x ∷ xs) zero zero new e = absurd (cc)
get_set_other (x ∷ xs) zero (suc k) new e = refl
get_set_other (x ∷ xs) (suc i) zero new e = refl
get_set_other (x ∷ xs) (suc i) (suc k) new e = get_set_other xs i k new (grind arith)

pub node_set_same : {T S : Type 0} (ns : List (Node T S)) (i : ℕ) (old new : Node T S) → node_at ns i ≡ Some old → node_at (set ns i new) i ≡ Some new
node_set_same ns i old new e =
    elim (i == 4294967295) as (λ b. node_by b ns i ≡ Some old → node_by b (set ns i new) i ≡ Some new)
    [ true ↦ λ h. absurd (cc) | false ↦ λ h. get_set_same ns i old new h ] e

pub node_set_other : {T S : Type 0} (ns : List (Node T S)) (i k : ℕ) (new : Node T S) → (i == k) ≡ false → node_at (set ns i new) k ≡ node_at ns k
node_set_other ns i k new e =
    elim (k == 4294967295) as (λ b. node_by b (set ns i new) k ≡ node_by b ns k)
    [ true ↦ refl | false ↦ get_set_other ns i k new e ]

pub place_within : {T S : Type 0} (ns : List (Node T S)) (i : ℕ) → is_some (node_at ns i) ≡ true → i < length ns
place_within ns i e =
    elim (i == 4294967295) as (λ b. is_some (node_by b ns i) ≡ true → i < length ns)
    [ true ↦ λ h. absurd (cc) | false ↦ λ h. within ns i h ] e
  where
    within : {A : Type 0} (xs : List A) (i : ℕ) → is_some (slice_get xs i) ≡ true → i < length xs
    within [] i e = absurd (cc)
    within (x ∷ xs) zero e = omega arith
    within (x ∷ xs) (suc i) e = omega (arith, within xs i e)

pub node_there : {T S : Type 0} (ns : List (Node T S)) (i : ℕ) → is_some (node_at ns i) ≡ true → (n : Node T S) × (node_at ns i ≡ Some n)
node_there ns i e = found (node_at ns i) e
  where
    found : {A : Type 0} (o : Option A) → is_some o ≡ true → (a : A) × (o ≡ Some a)
    found None h = absurd (cc)
    found (Some a) h = (a, refl)
