-- What the changes of a grove leave.
use Rattle.std.proofs.Common.{◌≡◌, ◌∙◌, ◌<◌, ◌≤◌, ◌+◌, ◌-◌, ◌^◌, ℕ, zero, suc, List, [], ◌∷◌, ◌++◌, length, Option, Some, None, Bool, true, false, ◌||◌, refl, sym, ap, subst, arith, append-nil, length-append, take, drop}
use Rattle.std.specs.Prelude.{◌==◌, map, filter}
use Rattle.std.specs.List.{slice_index_or}
use Rattle.std.proofs.Math.ListN.{set}
use Rattle.std.proofs.lemmas.Bool.{eqb-true}
use Rattle.sum_trees.specs.Sums.{Sums, sum_of}
use Rattle.sum_trees.specs.Nodes.{Entry, sum_at, has_place, AreApart, items_of}
use Rattle.sum_trees.specs.Order.{IsSorted, inserted, placed, unlike, has_like, is_like, first_of}
use Rattle.sum_trees.specs.Trees.{IsTree, HasTree, IsRoot, HasParts, CanSettle, Becomes, Settles}
use Rattle.sum_trees.specs.Changes.{HasSpace, CanEnter, Entered, IsCut, CutFirst, CutLike}
use Rattle.sum_trees.specs.Searches.{entries_at, TellsFirst, TellsPassing, TellsSum}
use Rattle.sum_trees.specs.Forests.{items_in, AreEmpty}
use Rattle.sum_trees.specs.Groves.{count_of, entries_in, StandApart, IsLoose, items_at, IsGrove, FoundPlace, FindsPlace, GroveBecomes}
use Rattle.sum_trees.specs.declared.nodes.Node.{Node}
use Rattle.sum_trees.specs.declared.change.Cut as change
use Rattle.sum_trees.specs.declared.grove.Spares.{Spares}
use Rattle.sum_trees.specs.declared.grove.Found.{Found}
use Rattle.sum_trees.proofs.Standing.{no_tree, items_append, sum_is}
use Rattle.sum_trees.proofs.Searched.{entries_are}
use Rattle.sum_trees.proofs.Orders.{IsOrder, placed_has, placed_length, placed_apart, placed_items, inserted_sorted, unlike_sorted, unlike_cut, unlike_none, unlike_gone, has_like_at}
use Rattle.sum_trees.proofs.Stands.{set_here, set_there, set_length, count_least, cut_stands, enter_stands, push_stands, read_back}

-- a slice that was written as a whole
pub written : {A : Type 0} (n : ℕ) (new old : List A) → length new ≡ length old → length old ≡ n → take n (new ++ drop (length new) old) ≡ new
written n new old e f =
    let none : drop (length new) old ≡ [] = dropped (length new) old (omega arith) in
    ap (λ l. take n (new ++ l)) none ∙ ap (take n) (append-nil new) ∙ taken n new (omega arith)
  where
    dropped : {A : Type 0} (n : ℕ) (xs : List A) → length xs ≤ n → drop n xs ≡ []
    dropped zero [] h = refl
    dropped (suc n) [] h = refl
    dropped zero (x ∷ xs) h = absurd (omega arith)
    dropped (suc n) (x ∷ xs) h = dropped n xs (omega arith)

    taken : {A : Type 0} (n : ℕ) (xs : List A) → length xs ≤ n → take n xs ≡ xs
    taken zero [] h = refl
    taken (suc n) [] h = refl
    taken zero (x ∷ xs) h = absurd (omega arith)
    taken (suc n) (x ∷ xs) h = ap (λ l. x ∷ l) (taken n xs (omega arith))

pub written_as : {A : Type 0} (P : List A → List A → Type 0) (s old new : List A) (n : ℕ) → P s new → s ≡ old → length new ≡ length s → length s ≡ n → P old (take n (new ++ drop (length new) old))
written_as P s old new n p e f g =
    let len : length s ≡ length old = ap length e in
    subst (λ l. P old l) (sym (written n new old (omega arith) (omega arith))) (subst (λ l. P l new) e p)

pub written_length : {A : Type 0} (s old new : List A) (n : ℕ) → s ≡ old → length new ≡ length s → length s ≡ n → length (take n (new ++ drop (length new) old)) ≡ length old
written_length s old new n e f g =
    let len : length s ≡ length old = ap length e in
    ap length (written n new old (omega arith) (omega arith)) ∙ (omega arith)

-- ---- lists of trees

pub map_get : {A : Type 0} (f : ℕ → List A) (rs : List ℕ) (k : ℕ) → k < length rs → slice_index_or (map f rs) k [] ≡ f (slice_index_or rs k 0)
map_get f [] k h = absurd (omega arith)
map_get f (r ∷ rs) zero h = refl
map_get f (r ∷ rs) (suc k) h = map_get f rs k (omega arith)

map_set : {A B : Type 0} (f : A → B) (xs : List A) (k : ℕ) (x : A) → map f (set xs k x) ≡ set (map f xs) k (f x)
map_set f [] k x = refl
map_set f (y ∷ xs) zero x = refl
map_set f (y ∷ xs) (suc k) x = ap (λ l. f y ∷ l) (map_set f xs k x)

map_map : {A B C : Type 0} (f : B → C) (g : A → B) (xs : List A) → map f (map g xs) ≡ map (λ x. f (g x)) xs
map_map f g [] = refl
map_map f g (x ∷ xs) = ap (λ l. f (g x) ∷ l) (map_map f g xs)

map_length : {A B : Type 0} (f : A → B) (xs : List A) → length (map f xs) ≡ length xs
map_length f [] = refl
map_length f (x ∷ xs) = ap suc (map_length f xs)

-- ---- the tree of a grove

pub grove_tree : {T S : Type 0} (m : Sums T S) (b : T → T → Bool) (ns : List (Node T S)) (rs : List ℕ) (spares : Spares) (k : ℕ) → IsGrove m b ns rs spares → k < length rs
    → HasTree m ns (slice_index_or rs k 0) (entries_at ns (slice_index_or rs k 0))
grove_tree {T = T} m b ns rs spares k s lt =
    let es = map (entries_at ns) rs in
    let is : entries_in es k ≡ entries_at ns (slice_index_or rs k 0) = map_get (entries_at ns) rs k lt in
    subst (λ (l : List (Entry T)). HasTree m ns (slice_index_or rs k 0) l) is (record {
      stands = s.stands.trees (suc k) (omega arith);
      apart = s.stands.apart (suc k);
      few = (let least : length (entries_in es k) ≤ count_of es = count_least es k in
          let all : (length (entries_at ns spares.root) + count_of es) + 0 ≡ length ns = s.stands.counted in
          let short : length ns ≤ 4294967295 = s.short in omega arith);
    })

pub grove_root : {T S : Type 0} (m : Sums T S) (b : T → T → Bool) (ns : List (Node T S)) (rs : List ℕ) (spares : Spares) (k : ℕ) → IsGrove m b ns rs spares → k < length rs → IsRoot m ns (slice_index_or rs k 0)
grove_root m b ns rs spares k s lt = (entries_at ns (slice_index_or rs k 0), grove_tree m b ns rs spares k s lt)

pub spare_root : {T S : Type 0} (m : Sums T S) (b : T → T → Bool) (ns : List (Node T S)) (rs : List ℕ) (spares : Spares) → IsGrove m b ns rs spares → IsRoot m ns spares.root
spare_root m b ns rs spares s = (
  entries_at ns spares.root,
  record {
    stands = s.stands.trees 0 (omega arith);
    apart = s.stands.apart 0;
    few = (let all : (length (entries_at ns spares.root) + count_of (map (entries_at ns) rs)) + 0 ≡ length ns = s.stands.counted in
        let short : length ns ≤ 4294967295 = s.short in omega arith);
  },
)

-- ---- a place is found

spare_few : {T S : Type 0} (m : Sums T S) (ns : List (Node T S)) (rs : List ℕ) (spare : List (Entry T)) (others : List (List (Entry T))) (root over : ℕ) → length ns ≤ 4294967295 → StandApart m ns (root ∷ rs) (spare ∷ others) over → HasTree m ns root spare
spare_few m ns rs spare others root over short s = record {
  stands = s.trees 0 (omega arith);
  apart = s.apart 0;
  few = (let all : (length spare + count_of others) + over ≡ length ns = s.counted in omega arith);
}

pub found_spare : {T S : Type 0} (m : Sums T S) (old new : List (Node T S)) (root count now : ℕ) (cut : change.Cut) → length new ≡ length old → now ≡ count - 1 → CutFirst m old new root (Some cut)
    → FindsPlace m old new (record { root = root; count = count }) (record { place = cut.place; spares = record { root = cut.rest; count = now } })
found_spare {T = T} m old new root count now cut len is f rs spare others counted short s =
    let q = f spare (spare_few m old rs spare others root 0 short s) in
    let t = cut_stands m old new (root ∷ rs) (spare ∷ others) 0 cut q.0 [] q.1 s (omega arith) len q.2 in
    let n : length spare ≡ length ((cut.place, q.0) ∷ q.1) = ap length q.2.was in
    record { rest = q.1; stands = t.0; loose = t.1; one = omega arith; counted = omega arith; short = omega arith }

pub none_spare : {T S : Type 0} (m : Sums T S) (old mid : List (Node T S)) (root : ℕ) → IsRoot m old root → CutFirst m old mid root None → length (entries_at old root) ≡ 0
none_spare {T = T} m old mid root r f =
    ap length (entries_are r.1.stands) ∙ ap length (f.1 r.0 r.1.stands)

pub found_new : {T S : Type 0} (m : Sums T S) (old mid new : List (Node T S)) (n : Node T S) (root count place : ℕ) → length old < 4294967295 → place ≡ length old → new ≡ mid ++ n ∷ [] → CutFirst m old mid root None
    → FindsPlace m old new (record { root = root; count = count }) (record { place = place; spares = record { root = root; count = count } })
found_new {T = T} {S = S} m old mid new n root count place room at is f rs spare others counted short s =
    let empty : spare ≡ [] = f.1 spare (s.trees 0 (omega arith)) in
    let same : new ≡ old ++ n ∷ [] = is ∙ ap (λ (l : List (Node T S)). l ++ n ∷ []) f.0 in
    let t = push_stands m old n (root ∷ rs) (spare ∷ others) room s in
    let len : length new ≡ length old + 1 = ap length same ∙ length-append old (n ∷ []) in
    record {
      rest = spare;
      stands = subst (λ (l : List (Node T S)). StandApart m l (root ∷ rs) (spare ∷ others) 1) (sym same) t.0;
      loose = subst (λ (l : List (Node T S)). IsLoose l (spare ∷ others) place) (sym same) (subst (λ (p : ℕ). IsLoose (old ++ n ∷ []) (spare ∷ others) p) (sym at) t.1);
      one = omega arith;
      counted = counted;
      short = omega arith;
    }

-- ---- an item was put in

pub grove_after : {T S : Type 0} (m : Sums T S) (b : T → T → Bool) (old new : List (Node T S)) (rs : List ℕ) (spares now : Spares) (k r : ℕ) (rest es : List (Entry T)) → IsGrove m b old rs spares → k < length rs
    → StandApart m new (now.root ∷ set rs k r) (rest ∷ set (map (entries_at old) rs) k es) 0 → IsSorted b (items_of es) → now.count ≡ length rest → length new ≤ 4294967295
    → GroveBecomes m b old new rs (set rs k r) now k (items_of es)
grove_after {T = T} m b old new rs spares now k r rest es s lt t sorted counted short = record {
  grove = record {
    stands = subst (λ (l : List (List (Entry T))). StandApart m new (now.root ∷ set rs k r) l 0) (read_back m new (now.root ∷ set rs k r) (rest ∷ set (map (entries_at old) rs) k es) 0 t) t;
    sorted = λ j h. subst (λ (l : List (Entry T)). IsSorted b (items_of l)) (sym (entries_are (t.trees (suc j) (omega arith)))) (each j (subst (λ (n : ℕ). j < n) (set_length rs k r) h));
    counted = counted ∙ ap length (sym (entries_are (t.trees 0 (omega arith))));
    short = short;
  };
  trees = sym (map_map items_of (entries_at new) (set rs k r))
      ∙ ap (map items_of) (sym (ap tail (read_back m new (now.root ∷ set rs k r) (rest ∷ set (map (entries_at old) rs) k es) 0 t)))
      ∙ map_set items_of (map (entries_at old) rs) k es
      ∙ ap (λ (l : List (List T)). set l k (items_of es)) (map_map items_of (entries_at old) rs);
}
  where
    tail : {A : Type 0} → List A → List A
    tail [] = []
    tail (x ∷ xs) = xs

    each : (j : ℕ) → j < length rs → IsSorted b (items_of (entries_in (set (map (entries_at old) rs) k es) j))
    each j h = elim (k == j) as (λ c. (k == j) ≡ c → IsSorted b (items_of (entries_in (set (map (entries_at old) rs) k es) j))) [
      | true ↦ λ is. subst (λ (i : ℕ). IsSorted b (items_of (entries_in (set (map (entries_at old) rs) k es) i))) (eqb-true k j is)
          (subst (λ (l : List (Entry T)). IsSorted b (items_of l)) (sym (set_here (map (entries_at old) rs) k es [] (let n : length (map (entries_at old) rs) ≡ length rs = map_length (entries_at old) rs in omega arith))) sorted)
      | false ↦ λ is. subst (λ (l : List (Entry T)). IsSorted b (items_of l)) (sym (set_there (map (entries_at old) rs) k j es [] is))
          (subst (λ (l : List (Entry T)). IsSorted b (items_of l)) (sym (map_get (entries_at old) rs j h)) (s.sorted j h))
    ] refl

found_of : {T S : Type 0} (m : Sums T S) (b : T → T → Bool) (old mid : List (Node T S)) (rs : List ℕ) (spares : Spares) (found : Found) → IsGrove m b old rs spares → FindsPlace m old mid spares found
    → FoundPlace m old mid rs (entries_at old spares.root) (map (entries_at old) rs) found
found_of m b old mid rs spares found s f = f rs (entries_at old spares.root) (map (entries_at old) rs) s.counted s.short s.stands

place_space : {T S : Type 0} (m : Sums T S) (b : T → T → Bool) (old mid : List (Node T S)) (rs : List ℕ) (spares : Spares) (found : Found) (k : ℕ) (x : T) → IsGrove m b old rs spares → k < length rs → FindsPlace m old mid spares found
    → HasSpace m b mid (slice_index_or rs k 0) found.place x (entries_at old (slice_index_or rs k 0))
place_space {T = T} m b old mid rs spares found k x s lt f =
    let p = found_of m b old mid rs spares found s f in
    let ess = map (entries_at old) rs in
    let is : entries_in ess k ≡ entries_at old (slice_index_or rs k 0) = map_get (entries_at old) rs k lt in
    let least : length (entries_in ess k) ≤ count_of ess = count_least ess k in
    let all : (length p.rest + count_of ess) + 1 ≡ length mid = p.stands.counted in
    let short : length mid ≤ 4294967295 = p.short in
    subst (λ (l : List (Entry T)). HasSpace m b mid (slice_index_or rs k 0) found.place x l) is (record {
      stands = p.stands.trees (suc k) (omega arith);
      is_place = p.loose.is_place;
      apart = (p.loose.outside (suc k), p.stands.apart (suc k));
      few = omega arith;
      sorted = subst (λ (l : List (Entry T)). IsSorted b (items_of l)) (sym is) (s.sorted k lt);
    })

pub can_put : {T S : Type 0} (m : Sums T S) (b : T → T → Bool) (old mid : List (Node T S)) (rs : List ℕ) (spares : Spares) (found : Found) (k : ℕ) (x : T) → IsGrove m b old rs spares → k < length rs → FindsPlace m old mid spares found
    → CanEnter m b mid (slice_index_or rs k 0) found.place x
can_put m b old mid rs spares found k x s lt f = (entries_at old (slice_index_or rs k 0), place_space m b old mid rs spares found k x s lt f)

pub was_put : {T S : Type 0} (m : Sums T S) {b : T → T → Bool} → IsOrder b → (old mid new : List (Node T S)) (rs : List ℕ) (spares : Spares) (found : Found) (k : ℕ) (x : T) (r : ℕ) → IsGrove m b old rs spares → k < length rs → FindsPlace m old mid spares found
    → has_like b x (items_at old (slice_index_or rs k 0)) ≡ false → length new ≡ length mid → Entered m b mid new (slice_index_or rs k 0) found.place x r
    → GroveBecomes m b old new rs (set rs k r) found.spares k (inserted b x (items_at old (slice_index_or rs k 0)))
was_put {T = T} m {b = b} order old mid new rs spares found k x r s lt f lacks len entered =
    let p = found_of m b old mid rs spares found s f in
    let ess = map (entries_at old) rs in
    let es = entries_at old (slice_index_or rs k 0) in
    let is : entries_in ess k ≡ es = map_get (entries_at old) rs k lt in
    let now : Becomes m mid new r (placed b (found.place, x) es) = entered es (place_space m b old mid rs spares found k x s lt f) in
    let out : has_place found.place es ≡ false = subst (λ (l : List (Entry T)). has_place found.place l ≡ false) is (p.loose.outside (suc k)) in
    let apart : AreApart es = subst AreApart is (p.stands.apart (suc k)) in
    let more : length (placed b (found.place, x) es) ≡ length es + 1 = placed_length b (found.place, x) es in
    let n : length (entries_in ess k) ≡ length es = ap length is in
    let t = enter_stands m mid new (found.spares.root ∷ rs) (p.rest ∷ ess) (suc k) r found.place (placed b (found.place, x) es) p.stands p.loose (omega arith) len now
    (λ j. placed_has b j (found.place, x) es ∙ ap (λ (l : List (Entry T)). found.place == j || has_place j l) (sym is))
    (placed_apart b (found.place, x) es (out, apart)) (omega arith) in
    let items : items_of (placed b (found.place, x) es) ≡ inserted b x (items_of es) = placed_items b (found.place, x) es in
    let short : length mid ≤ 4294967295 = p.short in
    subst (λ (l : List T). GroveBecomes m b old new rs (set rs k r) found.spares k l) items
    (grove_after m b old new rs spares found.spares k r p.rest (placed b (found.place, x) es) s lt t
    (subst (IsSorted b) (sym items) (inserted_sorted order x (items_of es) lacks (s.sorted k lt))) p.counted (omega arith))

pub found_one : {T S : Type 0} (m : Sums T S) (b : T → T → Bool) (old mid : List (Node T S)) (rs : List ℕ) (spares : Spares) (found : Found) → IsGrove m b old rs spares → FindsPlace m old mid spares found
    → spares.count + length mid ≡ found.spares.count + length old + 1
found_one m b old mid rs spares found s f =
    let p = found_of m b old mid rs spares found s f in
    let one : length (entries_at old spares.root) + length mid ≡ length p.rest + length old + 1 = p.one in
    let was : spares.count ≡ length (entries_at old spares.root) = s.counted in
    let now : found.spares.count ≡ length p.rest = p.counted in
    omega arith

-- ---- an item was taken out

taken_cut : {T S : Type 0} (m : Sums T S) (b : T → T → Bool) (old mid : List (Node T S)) (rs : List ℕ) (spares : Spares) (k : ℕ) (x : T) (cut : change.Cut) → IsGrove m b old rs spares → k < length rs
    → CutLike m b x old mid (slice_index_or rs k 0) (Some cut)
    → (y : T) × (low : List (Entry T)) × (high : List (Entry T)) × IsCut m old mid cut y low high (entries_at old (slice_index_or rs k 0)) × (is_like b x y ≡ true)
taken_cut m b old mid rs spares k x cut s lt f = f (entries_at old (slice_index_or rs k 0)) (grove_tree m b old rs spares k s lt)

taken_stands : {T S : Type 0} (m : Sums T S) (b : T → T → Bool) (old mid : List (Node T S)) (rs : List ℕ) (spares : Spares) (k : ℕ) (cut : change.Cut) (y : T) (low high : List (Entry T)) → IsGrove m b old rs spares → k < length rs
    → length mid ≡ length old → IsCut m old mid cut y low high (entries_at old (slice_index_or rs k 0))
    → StandApart m mid (spares.root ∷ set rs k cut.rest) (entries_at old spares.root ∷ set (map (entries_at old) rs) k (low ++ high)) 1
    × IsLoose mid (entries_at old spares.root ∷ set (map (entries_at old) rs) k (low ++ high)) cut.place
taken_stands {T = T} m b old mid rs spares k cut y low high s lt len q =
    cut_stands m old mid (spares.root ∷ rs) (entries_at old spares.root ∷ map (entries_at old) rs) (suc k) cut y low high s.stands (omega arith) len
    (subst (λ (l : List (Entry T)). IsCut m old mid cut y low high l) (sym (map_get (entries_at old) rs k lt)) q)

spare_parts : {T S : Type 0} (m : Sums T S) (mid : List (Node T S)) (root : ℕ) (rs : List ℕ) (spare : List (Entry T)) (others : List (List (Entry T))) (p : ℕ) (x : T) → length mid ≤ 4294967295
    → StandApart m mid (root ∷ rs) (spare ∷ others) 1 → IsLoose mid (spare ∷ others) p → HasParts m mid p x 4294967295 root [] spare
spare_parts m mid root rs spare others p x short t loose = record {
  is_place = loose.is_place;
  left_tree = no_tree m mid;
  right_tree = t.trees 0 (omega arith);
  apart = (loose.outside 0, t.apart 0);
  few = (let all : (length spare + count_of others) + 1 ≡ length mid = t.counted in omega arith);
}

pub taken_fits : {T S : Type 0} (m : Sums T S) (b : T → T → Bool) (old mid : List (Node T S)) (rs : List ℕ) (spares : Spares) (k : ℕ) (x : T) (cut : change.Cut) → IsGrove m b old rs spares → k < length rs → length mid ≡ length old
    → CutLike m b x old mid (slice_index_or rs k 0) (Some cut) → spares.count + 1 < 2 ^ 32
taken_fits m b old mid rs spares k x cut s lt len f =
    let q = taken_cut m b old mid rs spares k x cut s lt f in
    let t = taken_stands m b old mid rs spares k cut q.0 q.1 q.2 s lt len q.3 in
    let all : (length (entries_at old spares.root) + count_of (set (map (entries_at old) rs) k (q.1 ++ q.2))) + 1 ≡ length mid = t.0.counted in
    let was : spares.count ≡ length (entries_at old spares.root) = s.counted in
    let short : length old ≤ 4294967295 = s.short in
    omega arith

pub can_spare : {T S : Type 0} (m : Sums T S) (b : T → T → Bool) (old mid : List (Node T S)) (rs : List ℕ) (spares : Spares) (k : ℕ) (x : T) (cut : change.Cut) → IsGrove m b old rs spares → k < length rs → length mid ≡ length old
    → CutLike m b x old mid (slice_index_or rs k 0) (Some cut) → CanSettle m mid cut.place 4294967295 spares.root
can_spare m b old mid rs spares k x cut s lt len f =
    let q = taken_cut m b old mid rs spares k x cut s lt f in
    let t = taken_stands m b old mid rs spares k cut q.0 q.1 q.2 s lt len q.3 in
    let short : length old ≤ 4294967295 = s.short in
    let n = q.3.kept.0 in
    (n, q.3.kept.1, ([], entries_at old spares.root, spare_parts m mid spares.root (set rs k cut.rest) (entries_at old spares.root) (set (map (entries_at old) rs) k (q.1 ++ q.2)) cut.place n.item (omega arith) t.0 t.1))

cut_items : {T S : Type 0} (m : Sums T S) {b : T → T → Bool} → IsOrder b → (old mid : List (Node T S)) (x : T) (cut : change.Cut) (y : T) (low high es : List (Entry T)) → IsCut m old mid cut y low high es → is_like b x y ≡ true → IsSorted b (items_of es)
    → items_of (low ++ high) ≡ unlike b x (items_of es)
cut_items m {b = b} order old mid x cut y low high es q like s =
    let whole : items_of es ≡ items_of low ++ y ∷ items_of high = ap items_of q.was ∙ items_append low ((cut.place, y) ∷ high) in
    items_append low high ∙ sym (unlike_cut order x (items_of low) y (items_of high) like (subst (IsSorted b) whole s)) ∙ ap (unlike b x) (sym whole)

pub was_taken : {T S : Type 0} (m : Sums T S) {b : T → T → Bool} → IsOrder b → (old mid new : List (Node T S)) (rs : List ℕ) (root count now : ℕ) (k : ℕ) (x : T) (cut : change.Cut) → IsGrove m b old rs (record { root = root; count = count }) → k < length rs
    → length mid ≡ length old → CutLike m b x old mid (slice_index_or rs k 0) (Some cut) → length new ≡ length mid → Settles m mid new cut.place 4294967295 root cut.place → now ≡ count + 1
    → GroveBecomes m b old new rs (set rs k cut.rest) (record { root = cut.place; count = now }) k (unlike b x (items_at old (slice_index_or rs k 0)))
was_taken {T = T} m {b = b} order old mid new rs root count now k x cut s lt len f size settles more =
    let spares : Spares = record { root = root; count = count } in
    let es = entries_at old (slice_index_or rs k 0) in
    let spare = entries_at old root in
    let q = taken_cut m b old mid rs spares k x cut s lt f in
    let rest = set (map (entries_at old) rs) k (q.1 ++ q.2) in
    let t = taken_stands m b old mid rs spares k cut q.0 q.1 q.2 s lt len q.3 in
    let short : length old ≤ 4294967295 = s.short in
    let n = q.3.kept.0 in
    let e : Becomes m mid new cut.place ((cut.place, n.item) ∷ spare) = settles n q.3.kept.1 [] spare (spare_parts m mid root (set rs k cut.rest) spare rest cut.place n.item (omega arith) t.0 t.1) in
    let back = enter_stands m mid new (root ∷ set rs k cut.rest) (spare ∷ rest) 0 cut.place cut.place ((cut.place, n.item) ∷ spare) t.0 t.1 (omega arith) size e (λ j. refl) (t.1.outside 0, t.0.apart 0) (omega arith) in
    let items : items_of (q.1 ++ q.2) ≡ unlike b x (items_of es) = cut_items m order old mid x cut q.0 q.1 q.2 es q.3 q.4 (s.sorted k lt) in
    let was : count ≡ length spare = s.counted in
    subst (λ (l : List T). GroveBecomes m b old new rs (set rs k cut.rest) (record { root = cut.place; count = now }) k l) items
    (grove_after m b old new rs spares (record { root = cut.place; count = now }) k cut.rest ((cut.place, n.item) ∷ spare) (q.1 ++ q.2) s lt back
    (subst (IsSorted b) (sym items) (unlike_sorted b x (items_of es) (s.sorted k lt))) (omega arith) (omega arith))

pub had_like : {T S : Type 0} (m : Sums T S) (b : T → T → Bool) (old mid : List (Node T S)) (rs : List ℕ) (spares : Spares) (k : ℕ) (x : T) (cut : change.Cut) → IsGrove m b old rs spares → k < length rs
    → CutLike m b x old mid (slice_index_or rs k 0) (Some cut) → true ≡ has_like b x (items_at old (slice_index_or rs k 0))
had_like m b old mid rs spares k x cut s lt f =
    let q = taken_cut m b old mid rs spares k x cut s lt f in
    sym (ap (λ l. has_like b x (items_of l)) q.3.was ∙ ap (has_like b x) (items_append q.1 ((cut.place, q.0) ∷ q.2)) ∙ has_like_at b x (items_of q.1) q.0 (items_of q.2) q.4)

pub had_none : {T S : Type 0} (m : Sums T S) (b : T → T → Bool) (old mid : List (Node T S)) (rs : List ℕ) (spares : Spares) (k : ℕ) (x : T) → IsGrove m b old rs spares → k < length rs
    → CutLike m b x old mid (slice_index_or rs k 0) None → false ≡ has_like b x (items_at old (slice_index_or rs k 0))
had_none m b old mid rs spares k x s lt f = sym (f.1 (entries_at old (slice_index_or rs k 0)) (grove_tree m b old rs spares k s lt).stands (s.sorted k lt))

pub was_not_taken : {T S : Type 0} (m : Sums T S) (b : T → T → Bool) (old mid : List (Node T S)) (rs : List ℕ) (spares : Spares) (k : ℕ) (x : T) → IsGrove m b old rs spares → k < length rs
    → CutLike m b x old mid (slice_index_or rs k 0) None → GroveBecomes m b old mid rs rs spares k (unlike b x (items_at old (slice_index_or rs k 0)))
was_not_taken {T = T} {S = S} m b old mid rs spares k x s lt f =
    subst (λ (l : List (Node T S)). GroveBecomes m b old l rs rs spares k (unlike b x (items_at old (slice_index_or rs k 0)))) (sym f.0)
    (record {
      grove = s;
      trees = sym (ap (set (map (items_at old) rs) k) (unlike_none b x (items_at old (slice_index_or rs k 0)) (sym (had_none m b old mid rs spares k x s lt f)) ∙ sym (map_get (items_at old) rs k lt))
          ∙ set_same (map (items_at old) rs) k);
    })
  where
    set_same : {A : Type 0} (xs : List (List A)) (i : ℕ) → set xs i (slice_index_or xs i []) ≡ xs
    set_same [] i = refl
    set_same (y ∷ xs) zero = refl
    set_same (y ∷ xs) (suc i) = ap (λ l. y ∷ l) (set_same xs i)

-- ---- what a grove tells

pub within_rows : {A B : Type 0} (f : A → B) (rs : List A) (k : ℕ) (trees : List B) → map f rs ≡ trees → k < length trees → k < length rs
within_rows f rs k trees e h = let n : length (map f rs) ≡ length rs = map_length f rs in let l : length (map f rs) ≡ length trees = ap length e in omega arith

pub row_is : {T S : Type 0} (ns : List (Node T S)) (rs : List ℕ) (k : ℕ) (trees : List (List T)) → map (items_at ns) rs ≡ trees → k < length trees → items_at ns (slice_index_or rs k 0) ≡ items_in trees k
row_is ns rs k trees e h = sym (map_get (items_at ns) rs k (within_rows (items_at ns) rs k trees e h)) ∙ ap (λ l. items_in l k) e

pub row_read : (rs : List ℕ) (k r : ℕ) → k < length rs → r ≡ slice_index_or rs k r → r ≡ slice_index_or rs k 0
row_read [] k r h e = absurd (omega arith)
row_read (x ∷ rs) zero r h e = e
row_read (x ∷ rs) (suc k) r h e = row_read rs k r (omega arith) e

-- a slice of the nodes of a grove, and the root of a tree as it was read
pub record Reads {T S : Type 0} (m : Sums T S) (b : T → T → Bool) (ns ms : List (Node T S)) (rs : List ℕ) (spares : Spares) (k r : ℕ) (trees : List (List T)) : Type 0 where
  pub grove : IsGrove m b ns rs spares
  pub rows : map (items_at ns) rs ≡ trees
  pub within : k < length trees
  pub slice : ms ≡ ns
  pub root : r ≡ slice_index_or rs k r

pub read_tree : {T S : Type 0} (m : Sums T S) (b : T → T → Bool) (ns ms : List (Node T S)) (rs : List ℕ) (spares : Spares) (k r : ℕ) (trees : List (List T)) → Reads m b ns ms rs spares k r trees → HasTree m ms r (entries_at ns (slice_index_or rs k 0))
read_tree {T = T} {S = S} m b ns ms rs spares k r trees d =
    let lt = within_rows (items_at ns) rs k trees d.rows d.within in
    subst (λ (l : List (Node T S)). HasTree m l r (entries_at ns (slice_index_or rs k 0))) (sym d.slice)
    (subst (λ (j : ℕ). HasTree m ns j (entries_at ns (slice_index_or rs k 0))) (sym (row_read rs k r lt d.root)) (grove_tree m b ns rs spares k d.grove lt))

pub told_root : {T S : Type 0} (m : Sums T S) (b : T → T → Bool) (ns ms : List (Node T S)) (rs : List ℕ) (spares : Spares) (k r : ℕ) (trees : List (List T)) → Reads m b ns ms rs spares k r trees → IsRoot m ms r
told_root m b ns ms rs spares k r trees d = (entries_at ns (slice_index_or rs k 0), read_tree m b ns ms rs spares k r trees d)

pub told_sum : {T S : Type 0} (m : Sums T S) (b : T → T → Bool) (ns ms : List (Node T S)) (rs : List ℕ) (spares : Spares) (k r : ℕ) (trees : List (List T)) → Reads m b ns ms rs spares k r trees → sum_at ms r ≡ sum_of m (items_in trees k)
told_sum m b ns ms rs spares k r trees d = sum_is (read_tree m b ns ms rs spares k r trees d).stands ∙ ap (sum_of m) (row_is ns rs k trees d.rows d.within)

pub told_first : {T S : Type 0} (m : Sums T S) (b : T → T → Bool) (ns ms : List (Node T S)) (rs : List ℕ) (spares : Spares) (k r : ℕ) (trees : List (List T)) → Reads m b ns ms rs spares k r trees → (told : Option T) → TellsFirst m ms r told → told ≡ first_of (items_in trees k)
told_first m b ns ms rs spares k r trees d told f = f (entries_at ns (slice_index_or rs k 0)) (read_tree m b ns ms rs spares k r trees d).stands ∙ ap first_of (row_is ns rs k trees d.rows d.within)

pub told_passing : {T S : Type 0} (m : Sums T S) (b : T → T → Bool) (ns ms : List (Node T S)) (rs : List ℕ) (spares : Spares) (k r : ℕ) (trees : List (List T)) → Reads m b ns ms rs spares k r trees → (p : T → Bool) (told : Option T) → TellsPassing m b p ms r told
    → told ≡ first_of (filter p (items_in trees k))
told_passing m b ns ms rs spares k r trees d p told f =
    f (entries_at ns (slice_index_or rs k 0)) (read_tree m b ns ms rs spares k r trees d).stands (d.grove.sorted k (within_rows (items_at ns) rs k trees d.rows d.within))
    ∙ ap (λ l. first_of (filter p l)) (row_is ns rs k trees d.rows d.within)

pub told_range : {T S : Type 0} (m : Sums T S) (b : T → T → Bool) (ns ms : List (Node T S)) (rs : List ℕ) (spares : Spares) (k r : ℕ) (trees : List (List T)) → Reads m b ns ms rs spares k r trees → (p : T → Bool) (told : Option S) → TellsSum m b p ms r told
    → told ≡ sum_of m (filter p (items_in trees k))
told_range m b ns ms rs spares k r trees d p told f =
    f (entries_at ns (slice_index_or rs k 0)) (read_tree m b ns ms rs spares k r trees d).stands (d.grove.sorted k (within_rows (items_at ns) rs k trees d.rows d.within))
    ∙ ap (λ l. sum_of m (filter p l)) (row_is ns rs k trees d.rows d.within)

pub told_few : {T S : Type 0} (m : Sums T S) (b : T → T → Bool) (ns ms : List (Node T S)) (rs : List ℕ) (spares : Spares) (k r : ℕ) (trees : List (List T)) → Reads m b ns ms rs spares k r trees → length (items_in trees k) < 2 ^ 32
told_few m b ns ms rs spares k r trees d =
    let few : length (entries_at ns (slice_index_or rs k 0)) < 2 ^ 32 = (read_tree m b ns ms rs spares k r trees d).few in
    let n : length (items_at ns (slice_index_or rs k 0)) ≡ length (entries_at ns (slice_index_or rs k 0)) = map_length (λ e. e.1) (entries_at ns (slice_index_or rs k 0)) in
    let l : length (items_at ns (slice_index_or rs k 0)) ≡ length (items_in trees k) = ap length (row_is ns rs k trees d.rows d.within) in
    omega arith

pub told_sorted : {T S : Type 0} (m : Sums T S) (b : T → T → Bool) (ns ms : List (Node T S)) (rs : List ℕ) (spares : Spares) (k r : ℕ) (trees : List (List T)) → Reads m b ns ms rs spares k r trees → IsSorted b (items_in trees k)
told_sorted m b ns ms rs spares k r trees d = subst (IsSorted b) (row_is ns rs k trees d.rows d.within) (d.grove.sorted k (within_rows (items_at ns) rs k trees d.rows d.within))

-- ---- an empty grove

nowhere_get : (rs : List ℕ) → ((k : ℕ) → k < length rs → slice_index_or rs k 0 ≡ 4294967295) → (k : ℕ) → k < length (4294967295 ∷ rs) → slice_index_or (4294967295 ∷ rs) k 0 ≡ 4294967295
nowhere_get rs f zero h = refl
nowhere_get rs f (suc k) h = f k (omega arith)

abbrev no_nodes : (T S : Type 0) → List (Node T S)
no_nodes T S = []

none_rows : (T S : Type 0) (rs : List ℕ) → ((k : ℕ) → k < length rs → slice_index_or rs k 0 ≡ 4294967295) → (i : ℕ) → entries_in (map (entries_at (no_nodes T S)) rs) i ≡ []
none_rows T S [] f i = refl
none_rows T S (r ∷ rs) f zero = ap (entries_at (no_nodes T S)) (f 0 (omega arith))
none_rows T S (r ∷ rs) f (suc i) = none_rows T S rs (λ k h. f (suc k) (omega arith)) i

count_none : (T S : Type 0) (rs : List ℕ) → ((k : ℕ) → k < length rs → slice_index_or rs k 0 ≡ 4294967295) → count_of (map (entries_at (no_nodes T S)) rs) ≡ 0
count_none T S [] f = refl
count_none T S (r ∷ rs) f =
    let e : length (entries_at (no_nodes T S) r) ≡ 0 = ap (λ k. length (entries_at (no_nodes T S) k)) (f 0 (omega arith)) in
    let n : count_of (map (entries_at (no_nodes T S)) rs) ≡ 0 = count_none T S rs (λ k h. f (suc k) (omega arith)) in
    omega arith

pub starts : {T S : Type 0} (m : Sums T S) (b : T → T → Bool) (rs : List ℕ) → ((k : ℕ) → k < length rs → slice_index_or rs k 0 ≡ 4294967295) → IsGrove m b (no_nodes T S) rs (record { root = 4294967295; count = 0 })
starts {T = T} {S = S} m b rs f =
    let all = nowhere_get rs f in
    let none = none_rows T S (4294967295 ∷ rs) all in
    record {
      stands = record {
        as_many = map_length (entries_at (no_nodes T S)) (4294967295 ∷ rs);
        trees = λ i h. subst (λ (l : List (Entry T)). IsTree m (no_nodes T S) (slice_index_or (4294967295 ∷ rs) i 0) l) (sym (none i)) (subst (λ (k : ℕ). IsTree m (no_nodes T S) k []) (sym (all i h)) (no_tree m (no_nodes T S)));
        apart = λ i. subst AreApart (sym (none i)) tt;
        two = λ i j ne p h. ap (has_place p) (none j);
        counted = (let n : count_of (map (entries_at (no_nodes T S)) rs) ≡ 0 = count_none T S rs f in omega arith);
      };
      sorted = λ k h. subst (IsSorted b) (ap (items_at (no_nodes T S)) (sym (f k h))) tt;
      counted = refl;
      short = omega arith;
    }

pub start_rows : (T S : Type 0) (rs : List ℕ) (n : ℕ) → length rs ≡ n → ((k : ℕ) → k < length rs → slice_index_or rs k 0 ≡ 4294967295) → AreEmpty n (map (items_at (no_nodes T S)) rs)
start_rows T S rs n e f = record { many = map_length (items_at (no_nodes T S)) rs ∙ e; empty = blank rs f }
  where
    blank : (ks : List ℕ) → ((k : ℕ) → k < length ks → slice_index_or ks k 0 ≡ 4294967295) → (k : ℕ) → items_in (map (items_at (no_nodes T S)) ks) k ≡ []
    blank [] g k = refl
    blank (r ∷ ks) g zero = ap (items_at (no_nodes T S)) (g 0 (omega arith))
    blank (r ∷ ks) g (suc k) = blank ks (λ j h. g (suc j) (omega arith)) k

pub nowhere_more : (rs : List ℕ) → ((k : ℕ) → k < length rs → slice_index_or rs k 0 ≡ 4294967295) → (k : ℕ) → k < length (rs ++ 4294967295 ∷ []) → slice_index_or (rs ++ 4294967295 ∷ []) k 0 ≡ 4294967295
nowhere_more [] f zero h = refl
nowhere_more [] f (suc k) h = absurd (omega arith)
nowhere_more (r ∷ rs) f zero h = f 0 (omega arith)
nowhere_more (r ∷ rs) f (suc k) h = nowhere_more rs (λ j g. f (suc j) (omega arith)) k (omega arith)

-- the item that was taken is not in its tree
pub item_gone : {T : Type 0} (b : T → T → Bool) (x : T) (trees now : List (List T)) (k : ℕ) → k < length trees → now ≡ set trees k (unlike b x (items_in trees k)) → has_like b x (items_in now k) ≡ false
item_gone b x trees now k h e =
    ap (λ l. has_like b x (items_in l k)) e
    ∙ ap (has_like b x) (set_here trees k (unlike b x (items_in trees k)) [] h)
    ∙ unlike_gone b x (items_in trees k)
