-- Several trees in the same nodes.
use Rattle.std.proofs.Common.{◌≡◌, ◌∙◌, ◌<◌, ◌≤◌, ◌+◌, ℕ, zero, suc, List, [], ◌∷◌, ◌++◌, length, Some, None, Bool, true, false, ◌||◌, ◌⊎◌, inl, inr, refl, sym, ap, subst, arith, length-append}
use Rattle.std.specs.Prelude.{◌==◌, is_some, map}
use Rattle.std.specs.List.{slice_get, slice_index_or}
use Rattle.std.proofs.Math.ListN.{set}
use Rattle.std.proofs.lemmas.Bool.{eqb-true}
use Rattle.std.proofs.lemmas.Option.{slice_get_past}
use Rattle.sum_trees.specs.Sums.{Sums}
use Rattle.sum_trees.specs.Nodes.{Entry, node_at, node_by, has_place, AreApart}
use Rattle.sum_trees.specs.Trees.{Tree, Leaf, Fork, entries_of, StandsIn, IsTree, Becomes}
use Rattle.sum_trees.specs.Changes.{IsCut}
use Rattle.sum_trees.specs.Searches.{entries_at}
use Rattle.sum_trees.specs.Groves.{count_of, entries_in, StandApart, IsLoose}
use Rattle.sum_trees.specs.declared.nodes.Node.{Node}
use Rattle.sum_trees.specs.declared.change.Cut as change
use Rattle.sum_trees.proofs.Places.{place_append, neither, Cut, cut_of}
use Rattle.sum_trees.proofs.Standing.{tree_stays}
use Rattle.sum_trees.proofs.Searched.{entries_are}
use Rattle.sum_trees.proofs.Turns.{not_low, not_middle}
use Rattle.sum_trees.proofs.Orders.{clash, is_no}

-- ---- lists with one element changed

pub set_here : {A : Type 0} (xs : List A) (i : ℕ) (v d : A) → i < length xs → slice_index_or (set xs i v) i d ≡ v
set_here [] i v d h = absurd (omega arith)
set_here (x ∷ xs) zero v d h = refl
set_here (x ∷ xs) (suc i) v d h = set_here xs i v d (omega arith)

pub set_there : {A : Type 0} (xs : List A) (i j : ℕ) (v d : A) → (i == j) ≡ false → slice_index_or (set xs i v) j d ≡ slice_index_or xs j d
set_there [] i j v d h = refl
set_there (x ∷ xs) zero zero v d h = absurd (cc)
set_there (x ∷ xs) zero (suc j) v d h = refl
set_there (x ∷ xs) (suc i) zero v d h = refl
set_there (x ∷ xs) (suc i) (suc j) v d h = set_there xs i j v d (grind arith)

pub set_length : {A : Type 0} (xs : List A) (i : ℕ) (v : A) → length (set xs i v) ≡ length xs
set_length [] i v = refl
set_length (x ∷ xs) zero v = refl
set_length (x ∷ xs) (suc i) v = ap suc (set_length xs i v)

pub count_set : {T : Type 0} (ess : List (List (Entry T))) (i : ℕ) (es : List (Entry T)) → i < length ess → count_of (set ess i es) + length (entries_in ess i) ≡ count_of ess + length es
count_set [] i es h = absurd (omega arith)
count_set (x ∷ ess) zero es h = omega arith
count_set (x ∷ ess) (suc i) es h = omega (arith, count_set ess i es (omega arith))

pub count_least : {T : Type 0} (ess : List (List (Entry T))) (i : ℕ) → length (entries_in ess i) ≤ count_of ess
count_least [] i = omega arith
count_least (x ∷ ess) zero = omega arith
count_least (x ∷ ess) (suc i) = omega (arith, count_least ess i)

-- ---- one tree is another one now

pub set_stands : {T S : Type 0} (m : Sums T S) (old new : List (Node T S)) (rs : List ℕ) (ess : List (List (Entry T))) (over now : ℕ) (i r : ℕ) (es : List (Entry T)) → StandApart m old rs ess over → i < length rs
    → IsTree m new r es → AreApart es
    → ((j p : ℕ) → (i == j) ≡ false → has_place p (entries_in ess j) ≡ true → node_at new p ≡ node_at old p)
    → ((j p : ℕ) → (i == j) ≡ false → has_place p es ≡ true → has_place p (entries_in ess j) ≡ false)
    → count_of (set ess i es) + now ≡ length new
    → StandApart m new (set rs i r) (set ess i es) now
set_stands {T = T} m old new rs ess over now i r es s lt t apart keeps out count = record {
  as_many = set_length ess i es ∙ s.as_many ∙ sym (set_length rs i r);
  trees = λ j h. elim (i == j) as (λ b. (i == j) ≡ b → IsTree m new (slice_index_or (set rs i r) j 0) (entries_in (set ess i es) j)) [
    | true ↦ λ is. subst (λ (k : ℕ). IsTree m new (slice_index_or (set rs i r) k 0) (entries_in (set ess i es) k)) (eqb-true i j is)
        (subst (λ (k : ℕ). IsTree m new k (entries_in (set ess i es) i)) (sym (set_here rs i r 0 lt)) (subst (λ (l : List (Entry T)). IsTree m new r l) (sym (set_here ess i es [] lt_ess)) t))
    | false ↦ λ is. subst (λ (k : ℕ). IsTree m new k (entries_in (set ess i es) j)) (sym (set_there rs i j r 0 is))
        (subst (λ (l : List (Entry T)). IsTree m new (slice_index_or rs j 0) l) (sym (set_there ess i j es [] is))
        (tree_stays (s.trees j (subst (λ (n : ℕ). j < n) (set_length rs i r) h)) (λ p q. keeps j p is q)))
  ] refl;
  apart = λ j. elim (i == j) as (λ b. (i == j) ≡ b → AreApart (entries_in (set ess i es) j)) [
    | true ↦ λ is. subst (λ (k : ℕ). AreApart (entries_in (set ess i es) k)) (eqb-true i j is) (subst AreApart (sym (set_here ess i es [] lt_ess)) apart)
    | false ↦ λ is. subst AreApart (sym (set_there ess i j es [] is)) (s.apart j)
  ] refl;
  two = λ j k ne p h. elim (i == j) as (λ b. (i == j) ≡ b → has_place p (entries_in (set ess i es) k) ≡ false) [
    | true ↦ λ is. (let at_j : i ≡ j = eqb-true i j is in
        let in_es : has_place p es ≡ true = subst (λ (l : List (Entry T)). has_place p l ≡ true) (set_here ess i es [] lt_ess) (subst (λ (q : ℕ). has_place p (entries_in (set ess i es) q) ≡ true) (sym at_j) h) in
        let ik : (i == k) ≡ false = subst (λ (q : ℕ). (q == k) ≡ false) (sym at_j) ne in
        ap (has_place p) (set_there ess i k es [] ik) ∙ out k p ik in_es)
    | false ↦ λ is. (let in_j : has_place p (entries_in ess j) ≡ true = subst (λ (l : List (Entry T)). has_place p l ≡ true) (set_there ess i j es [] is) h in
        elim (i == k) as (λ b. (i == k) ≡ b → has_place p (entries_in (set ess i es) k) ≡ false) [
          | true ↦ λ at. subst (λ (q : ℕ). has_place p (entries_in (set ess i es) q) ≡ false) (eqb-true i k at)
              (ap (has_place p) (set_here ess i es [] lt_ess) ∙ is_no _ (λ bad. clash (out j p is bad) in_j))
          | false ↦ λ at. ap (has_place p) (set_there ess i k es [] at) ∙ s.two j k ne p in_j
        ] refl)
  ] refl;
  counted = count;
}
  where
    lt_ess : i < length ess
    lt_ess = (let e : length ess ≡ length rs = s.as_many in omega arith)

-- ---- an entry is cut out

pub cut_stands : {T S : Type 0} (m : Sums T S) (old new : List (Node T S)) (rs : List ℕ) (ess : List (List (Entry T))) (i : ℕ) (cut : change.Cut) (y : T) (low high : List (Entry T)) → StandApart m old rs ess 0 → i < length rs
    → length new ≡ length old → IsCut m old new cut y low high (entries_in ess i) → StandApart m new (set rs i cut.rest) (set ess i (low ++ high)) 1 × IsLoose new (set ess i (low ++ high)) cut.place
cut_stands {T = T} m old new rs ess i cut y low high s lt len q = (
  set_stands m old new rs ess 0 1 i cut.rest (low ++ high) s lt q.stands (drops low (cut.place, y) high whole_apart)
      (λ j p ne h. q.same p (s.two j i (turned i j ne) p h))
      (λ j p ne h. s.two i j ne p (subst (λ (l : List (Entry T)). has_place p l ≡ true) (sym q.was) (in_more p low (cut.place, y) high h)))
      counted,
  record {
    is_place = ap is_some q.kept.1;
    outside = λ j. elim (i == j) as (λ b. (i == j) ≡ b → has_place cut.place (entries_in (set ess i (low ++ high)) j) ≡ false) [
      | true ↦ λ is. subst (λ (k : ℕ). has_place cut.place (entries_in (set ess i (low ++ high)) k) ≡ false) (eqb-true i j is)
          (ap (has_place cut.place) (set_here ess i (low ++ high) [] lt_ess) ∙ (place_append cut.place low high ∙ neither _ _ c.not_low c.not_high))
      | false ↦ λ is. ap (has_place cut.place) (set_there ess i j (low ++ high) [] is)
          ∙ s.two i j is cut.place (subst (λ (l : List (Entry T)). has_place cut.place l ≡ true) (sym q.was) (at_fork cut.place low y high))
    ] refl;
  },
)
  where
    lt_ess : i < length ess
    lt_ess = (let e : length ess ≡ length rs = s.as_many in omega arith)

    whole_apart : AreApart (low ++ (cut.place, y) ∷ high)
    whole_apart = subst AreApart q.was (s.apart i)

    c : Cut low (cut.place, y) high
    c = cut_of low (cut.place, y) high whole_apart

    turned : (j k : ℕ) → (j == k) ≡ false → (k == j) ≡ false
    turned j k h = grind arith

    drops : (xs : List (Entry T)) (e : Entry T) (ys : List (Entry T)) → AreApart (xs ++ e ∷ ys) → AreApart (xs ++ ys)
    drops [] e ys a = a.1
    drops (x ∷ xs) e ys a = (place_append x.0 xs ys ∙ neither _ _ (not_low x.0 xs (e ∷ ys) a.0) (not_middle x.0 xs e ys a.0), drops xs e ys a.1)

    right_or : (a b : Bool) → b ≡ true → (a || b) ≡ true
    right_or true b e = refl
    right_or false b e = e

    in_more : (p : ℕ) (xs : List (Entry T)) (e : Entry T) (ys : List (Entry T)) → has_place p (xs ++ ys) ≡ true → has_place p (xs ++ e ∷ ys) ≡ true
    in_more p [] e ys h = right_or (e.0 == p) _ h
    in_more p (x ∷ xs) e ys h = elim (x.0 == p) as (λ b. (b || has_place p (xs ++ ys)) ≡ true → (b || has_place p (xs ++ e ∷ ys)) ≡ true) [ true ↦ λ g. refl | false ↦ λ g. in_more p xs e ys g ] h

    self : (k : ℕ) (b : Bool) → (k == k || b) ≡ true
    self k b = grind arith

    at_fork : (k : ℕ) (xs : List (Entry T)) (x : T) (ys : List (Entry T)) → has_place k (xs ++ (k, x) ∷ ys) ≡ true
    at_fork k xs x ys = place_append k xs ((k, x) ∷ ys) ∙ right_or (has_place k xs) _ (self k (has_place k ys))

    counted : count_of (set ess i (low ++ high)) + 1 ≡ length new
    counted =
        (let sum : count_of (set ess i (low ++ high)) + length (entries_in ess i) ≡ count_of ess + length (low ++ high) = count_set ess i (low ++ high) lt_ess in
        let was : length (entries_in ess i) ≡ length (low ++ (cut.place, y) ∷ high) = ap length q.was in
        let all : count_of ess + 0 ≡ length old = s.counted in
        omega (arith, length-append low ((cut.place, y) ∷ high), length-append low high))

-- ---- an entry comes in

pub enter_stands : {T S : Type 0} (m : Sums T S) (old new : List (Node T S)) (rs : List ℕ) (ess : List (List (Entry T))) (i r q : ℕ) (es : List (Entry T)) → StandApart m old rs ess 1 → IsLoose old ess q → i < length rs
    → length new ≡ length old → Becomes m old new r es → ((p : ℕ) → has_place p es ≡ (q == p || has_place p (entries_in ess i))) → AreApart es → length es ≡ length (entries_in ess i) + 1
    → StandApart m new (set rs i r) (set ess i es) 0
enter_stands {T = T} m old new rs ess i r q es s loose lt len b has apart more =
    set_stands m old new rs ess 1 0 i r es s lt b.stands apart
    (λ j p ne h. b.same p (has p ∙ neither _ _ (not_it j p h) (s.two j i (turned i j ne) p h)))
    (λ j p ne h. elim (q == p) as (λ c. (q == p) ≡ c → has_place p (entries_in ess j) ≡ false) [
      | true ↦ λ is. subst (λ (k : ℕ). has_place k (entries_in ess j) ≡ false) (eqb-true q p is) (loose.outside j)
      | false ↦ λ is. s.two i j ne p (second (q == p) _ is (sym (has p) ∙ h))
    ] refl)
    counted
  where
    lt_ess : i < length ess
    lt_ess = (let e : length ess ≡ length rs = s.as_many in omega arith)

    turned : (j k : ℕ) → (j == k) ≡ false → (k == j) ≡ false
    turned j k h = grind arith

    second : (a c : Bool) → a ≡ false → (a || c) ≡ true → c ≡ true
    second true c e f = absurd (cc)
    second false c e f = f

    not_it : (j p : ℕ) → has_place p (entries_in ess j) ≡ true → (q == p) ≡ false
    not_it j p h = is_no _ (λ is. clash (subst (λ (k : ℕ). has_place k (entries_in ess j) ≡ false) (eqb-true q p is) (loose.outside j)) h)

    counted : count_of (set ess i es) + 0 ≡ length new
    counted =
        (let sum : count_of (set ess i es) + length (entries_in ess i) ≡ count_of ess + length es = count_set ess i es lt_ess in
        let all : count_of ess + 1 ≡ length old = s.counted in
        omega arith)

-- ---- a node more

places_there : {T S : Type 0} (m : Sums T S) (ns : List (Node T S)) (t : Tree T) (p : ℕ) → StandsIn m ns t → has_place p (entries_of t) ≡ true → is_some (node_at ns p) ≡ true
places_there m ns Leaf p s h = absurd (cc)
places_there m ns (Fork k l x r) p s h =
    elim (has_place p (entries_of l)) as (λ b. has_place p (entries_of l) ≡ b → is_some (node_at ns p) ≡ true) [
      | true ↦ λ is. places_there m ns l p s.1.0 is
      | false ↦ λ is. elim (k == p) as (λ b. (k == p) ≡ b → is_some (node_at ns p) ≡ true) [
        | true ↦ λ at. subst (λ (q : ℕ). is_some (node_at ns q) ≡ true) (eqb-true k p at) (ap is_some s.0.1)
        | false ↦ λ at. places_there m ns r p s.1.1 (last (has_place p (entries_of l)) (k == p) (has_place p (entries_of r)) is at (sym (place_append p (entries_of l) ((k, x) ∷ entries_of r)) ∙ h))
      ] refl
    ] refl
  where
    last : (a b c : Bool) → a ≡ false → b ≡ false → (a || (b || c)) ≡ true → c ≡ true
    last true b c e f g = absurd (cc)
    last false true c e f g = absurd (cc)
    last false false c e f g = g

get_more : {A : Type 0} (xs ys : List A) (i : ℕ) → is_some (slice_get xs i) ≡ true → slice_get (xs ++ ys) i ≡ slice_get xs i
get_more [] ys i h = absurd (cc)
get_more (x ∷ xs) ys zero h = refl
get_more (x ∷ xs) ys (suc i) h = get_more xs ys i h

get_last : {A : Type 0} (xs : List A) (x : A) → slice_get (xs ++ x ∷ []) (length xs) ≡ Some x
get_last [] x = refl
get_last (y ∷ xs) x = get_last xs x

node_more : {T S : Type 0} (ns : List (Node T S)) (n : Node T S) (p : ℕ) → is_some (node_at ns p) ≡ true → node_at (ns ++ n ∷ []) p ≡ node_at ns p
node_more ns n p h =
    elim (p == 4294967295) as (λ b. is_some (node_by b ns p) ≡ true → node_by b (ns ++ n ∷ []) p ≡ node_by b ns p)
    [ true ↦ λ g. refl | false ↦ λ g. get_more ns (n ∷ []) p g ] h

node_last : {T S : Type 0} (ns : List (Node T S)) (n : Node T S) → length ns < 4294967295 → node_at (ns ++ n ∷ []) (length ns) ≡ Some n
node_last ns n h =
    elim (length ns == 4294967295) as (λ b. (length ns == 4294967295) ≡ b → node_by b (ns ++ n ∷ []) (length ns) ≡ Some n)
    [ true ↦ λ is. absurd (let e : length ns ≡ 4294967295 = eqb-true _ _ is in omega arith) | false ↦ λ is. get_last ns n ] refl

node_past : {T S : Type 0} (ns : List (Node T S)) → node_at ns (length ns) ≡ None
node_past ns =
    elim (length ns == 4294967295) as (λ b. node_by b ns (length ns) ≡ None)
    [ true ↦ refl | false ↦ slice_get_past ns (length ns) (omega arith) ]

nat_cases : (i n : ℕ) → (i < n) ⊎ (n ≤ i)
nat_cases i zero = inr (omega arith)
nat_cases zero (suc n) = inl (omega arith)
nat_cases (suc i) (suc n) = elim (nat_cases i n) [ inl h ↦ inl (omega arith) | inr h ↦ inr (omega arith) ]

entries_past : {T : Type 0} (ess : List (List (Entry T))) (i : ℕ) → length ess ≤ i → entries_in ess i ≡ []
entries_past [] i h = refl
entries_past (x ∷ ess) zero h = absurd (omega arith)
entries_past (x ∷ ess) (suc i) h = entries_past ess i (omega arith)

pub push_stands : {T S : Type 0} (m : Sums T S) (ns : List (Node T S)) (n : Node T S) (rs : List ℕ) (ess : List (List (Entry T))) → length ns < 4294967295 → StandApart m ns rs ess 0
    → StandApart m (ns ++ n ∷ []) rs ess 1 × IsLoose (ns ++ n ∷ []) ess (length ns)
push_stands {T = T} m ns n rs ess short s = (
  record {
    as_many = s.as_many;
    trees = λ i h. tree_stays (s.trees i h) (λ p q. node_more ns n p (there i h p q));
    apart = s.apart;
    two = s.two;
    counted = (let all : count_of ess + 0 ≡ length ns = s.counted in omega (arith, length-append ns (n ∷ [])));
  },
  record {
    is_place = ap is_some (node_last ns n short);
    outside = λ i. is_no _ (λ bad. clash (ap is_some (node_past ns)) (found i bad));
  },
)
  where
    there : (i : ℕ) → i < length rs → (p : ℕ) → has_place p (entries_in ess i) ≡ true → is_some (node_at ns p) ≡ true
    there i h p q = (let t = s.trees i h in places_there m ns t.tree p t.stands (subst (λ (l : List (Entry T)). has_place p l ≡ true) (sym t.its_entries) q))

    within : (i : ℕ) → has_place (length ns) (entries_in ess i) ≡ true → i < length rs
    within i bad = (let e : length ess ≡ length rs = s.as_many in elim (nat_cases i (length ess)) [ inl h ↦ omega arith | inr h ↦ absurd (clash (ap (has_place (length ns)) (entries_past ess i h)) bad) ])

    found : (i : ℕ) → has_place (length ns) (entries_in ess i) ≡ true → is_some (node_at ns (length ns)) ≡ true
    found i bad = there i (within i bad) (length ns) bad

-- ---- the entries are those that are read

pub read_back : {T S : Type 0} (m : Sums T S) (ns : List (Node T S)) (rs : List ℕ) (ess : List (List (Entry T))) (over : ℕ) → StandApart m ns rs ess over → ess ≡ map (entries_at ns) rs
read_back m ns rs ess over s = alike rs ess s.as_many s.trees
  where
    alike : (ks : List ℕ) (ls : List (List (Entry _))) → length ls ≡ length ks → ((i : ℕ) → i < length ks → IsTree m ns (slice_index_or ks i 0) (entries_in ls i)) → ls ≡ map (entries_at ns) ks
    alike [] [] e t = refl
    alike [] (l ∷ ls) e t = absurd (omega arith)
    alike (k ∷ ks) [] e t = absurd (omega arith)
    alike (k ∷ ks) (l ∷ ls) e t = (λ i. sym (entries_are (t 0 (omega arith))) i ∷ alike ks ls (omega arith) (λ i h. t (suc i) (omega arith)) i)
