-- An item in the place of its like.
use Rattle.std.proofs.Common.{◌≡◌, ◌∙◌, ◌<◌, ◌≤◌, ◌+◌, ◌^◌, ℕ, zero, suc, List, [], ◌∷◌, ◌++◌, length, Some, Bool, true, false, ◌||◌, inl, inr, refl, sym, ap, subst, arith, take, drop}
use Rattle.std.specs.Prelude.{◌==◌, is_some, map, if◌then◌else◌}
use Rattle.std.specs.List.{slice_index_or}
use Rattle.std.proofs.Math.ListN.{set}
use Rattle.sum_trees.specs.Sums.{Sums}
use Rattle.sum_trees.specs.Nodes.{Entry, node_at, has_place, AreApart, items_of}
use Rattle.sum_trees.specs.Order.{GoesFirst, IsSorted, is_like, replaced, replaced_in}
use Rattle.sum_trees.specs.Trees.{HasTree, HasParts, CanFork, Becomes, Forks}
use Rattle.sum_trees.specs.Changes.{StandsInOrder, TakesPlace}
use Rattle.sum_trees.specs.Searches.{entries_at}
use Rattle.sum_trees.specs.Forests.{items_in}
use Rattle.sum_trees.specs.Groves.{count_of, entries_in, StandApart, items_at, IsGrove, GroveBecomes}
use Rattle.sum_trees.specs.declared.nodes.Node.{Node}
use Rattle.sum_trees.specs.declared.grove.Spares.{Spares}
use Rattle.sum_trees.proofs.Standing.{Opened, opens}
use Rattle.sum_trees.proofs.Turns.{not_low, not_middle, after_that, opened_parts, left_root, right_root, left_is_other, right_is_other}
use Rattle.sum_trees.proofs.Orders.{IsOrder, GoesLast, clash, either, unpicked, like_parts, like_is, like_goes_first, low_not_like, high_not_like, sorted_low, sorted_high, sorted_last}
use Rattle.sum_trees.proofs.Cuts.{sorted_parts}
use Rattle.sum_trees.proofs.Parted.{picked, not_like_first, not_like_last, like_above, like_below}
use Rattle.sum_trees.proofs.Stands.{set_stands, count_set}
use Rattle.sum_trees.proofs.Grown.{Reads, written, map_get, grove_tree, grove_after, within_rows, row_is, row_read, read_tree}

-- ---- entries

replaced_append : {T : Type 0} (b : T → T → Bool) (x : T) (es fs : List (Entry T)) → replaced_in b x (es ++ fs) ≡ replaced_in b x es ++ replaced_in b x fs
replaced_append b x [] fs = refl
replaced_append b x (e ∷ es) fs = ap (λ l. (e.0, if is_like b x e.1 then x else e.1) ∷ l) (replaced_append b x es fs)

replaced_length : {T : Type 0} (b : T → T → Bool) (x : T) (es : List (Entry T)) → length (replaced_in b x es) ≡ length es
replaced_length b x [] = refl
replaced_length b x (e ∷ es) = ap suc (replaced_length b x es)

replaced_has : {T : Type 0} (b : T → T → Bool) (x : T) (j : ℕ) (es : List (Entry T)) → has_place j (replaced_in b x es) ≡ has_place j es
replaced_has b x j [] = refl
replaced_has b x j (e ∷ es) = ap (λ t. e.0 == j || t) (replaced_has b x j es)

replaced_apart : {T : Type 0} (b : T → T → Bool) (x : T) (es : List (Entry T)) → AreApart es → AreApart (replaced_in b x es)
replaced_apart b x [] a = tt
replaced_apart b x (e ∷ es) a = (replaced_has b x e.0 es ∙ a.0, replaced_apart b x es a.1)

replaced_items : {T : Type 0} (b : T → T → Bool) (x : T) (es : List (Entry T)) → items_of (replaced_in b x es) ≡ replaced b x (items_of es)
replaced_items b x [] = refl
replaced_items b x (e ∷ es) = ap (λ l. (if is_like b x e.1 then x else e.1) ∷ l) (replaced_items b x es)

-- nothing behind this item is like the other
replaced_above : {T : Type 0} (b : T → T → Bool) (x y : T) (es : List (Entry T)) → ((z : T) → b y z ≡ true → is_like b x z ≡ false) → GoesFirst b y (items_of es) → replaced_in b x es ≡ es
replaced_above b x y [] f g = refl
replaced_above b x y (e ∷ es) f g = (λ i. (e.0, unpicked (is_like b x e.1) (f e.1 g.0) x e.1 i) ∷ replaced_above b x y es f g.1 i)

-- nothing before this item is like the other
replaced_below : {T : Type 0} (b : T → T → Bool) (x y : T) (es : List (Entry T)) → ((z : T) → b z y ≡ true → is_like b x z ≡ false) → GoesLast b (items_of es) y → replaced_in b x es ≡ es
replaced_below b x y [] f g = refl
replaced_below b x y (e ∷ es) f g = (λ i. (e.0, unpicked (is_like b x e.1) (f e.1 g.0) x e.1 i) ∷ replaced_below b x y es f g.1 i)

-- ---- the order

goes_like : {T : Type 0} {b : T → T → Bool} → IsOrder b → (x y z : T) → is_like b x y ≡ true → b z y ≡ true → b z x ≡ true
goes_like {b = b} o x y z l e =
    elim (either (b z x) (b x y) (o.splits z x y e)) [ inl h ↦ h | inr h ↦ absurd (clash (like_parts (b x y) (b y x) l).0 h) ]

goes_replaced : {T : Type 0} {b : T → T → Bool} → IsOrder b → (x z : T) (ys : List T) → GoesFirst b z ys → GoesFirst b z (replaced b x ys)
goes_replaced o x z [] g = tt
goes_replaced {b = b} o x z (y ∷ ys) g = (
  elim (is_like b x y) as (λ c. is_like b x y ≡ c → b z (if c then x else y) ≡ true) [ true ↦ λ e. goes_like o x y z e g.0 | false ↦ λ e. g.0 ] refl,
  goes_replaced o x z ys g.1,
)

replaced_sorted : {T : Type 0} {b : T → T → Bool} → IsOrder b → (x : T) (ys : List T) → IsSorted b ys → IsSorted b (replaced b x ys)
replaced_sorted o x [] s = tt
replaced_sorted {b = b} o x (y ∷ ys) s = (
  elim (is_like b x y) as (λ c. is_like b x y ≡ c → GoesFirst b (if c then x else y) (replaced b x ys))
      [ true ↦ λ e. goes_replaced o x x ys (like_goes_first o x y ys e s.0) | false ↦ λ e. goes_replaced o x y ys s.0 ] refl,
  replaced_sorted o x ys s.1,
)

-- ---- the entries round a node's item

-- its left and right trees' items come before it and behind it
record Round {T : Type 0} (b : T → T → Bool) (low : List (Entry T)) (y : T) (high : List (Entry T)) : Type 0 where
  pub low_sorted : IsSorted b (items_of low)
  pub high_sorted : IsSorted b (items_of high)
  pub last : GoesLast b (items_of low) y
  pub first : GoesFirst b y (items_of high)

round : {T S : Type 0} (m : Sums T S) (b : T → T → Bool) (ns : List (Node T S)) (root : ℕ) (n : Node T S) (es : List (Entry T)) → (o : Opened m ns root n es) → IsSorted b (items_of es) → Round b o.low n.item o.high
round m b ns root n es o s =
    let sorted = sorted_parts m b ns root n es o s in
    let high = sorted_high b (items_of o.low) (n.item ∷ items_of o.high) sorted in
    record {
      low_sorted = sorted_low b (items_of o.low) _ sorted;
      high_sorted = high.1;
      last = sorted_last b (items_of o.low) n.item (items_of o.high) sorted;
      first = high.0;
    }

replaced_left : {T : Type 0} {b : T → T → Bool} → IsOrder b → (x : T) (low : List (Entry T)) (k : ℕ) (y : T) (high : List (Entry T)) → b x y ≡ true → Round b low y high
    → replaced_in b x (low ++ (k, y) ∷ high) ≡ replaced_in b x low ++ (k, y) ∷ high
replaced_left {b = b} o x low k y high before r =
    replaced_append b x low ((k, y) ∷ high)
    ∙ (λ i. replaced_in b x low ++ (k, unpicked (is_like b x y) (not_like_first _ _ before) x y i) ∷ replaced_above b x y high (λ z e. like_above o x y z before e) r.first i)

replaced_right : {T : Type 0} {b : T → T → Bool} → IsOrder b → (x : T) (low : List (Entry T)) (k : ℕ) (y : T) (high : List (Entry T)) → b y x ≡ true → Round b low y high
    → replaced_in b x (low ++ (k, y) ∷ high) ≡ low ++ (k, y) ∷ replaced_in b x high
replaced_right {b = b} o x low k y high behind r =
    replaced_append b x low ((k, y) ∷ high)
    ∙ (λ i. replaced_below b x y low (λ z e. like_below o x y z behind e) r.last i ++ (k, unpicked (is_like b x y) (not_like_last _ _ behind) x y i) ∷ replaced_in b x high)

replaced_here : {T : Type 0} {b : T → T → Bool} → IsOrder b → (x : T) (low : List (Entry T)) (k : ℕ) (y : T) (high : List (Entry T)) → is_like b x y ≡ true → Round b low y high
    → replaced_in b x (low ++ (k, y) ∷ high) ≡ low ++ (k, x) ∷ high
replaced_here {b = b} o x low k y high like r =
    replaced_append b x low ((k, y) ∷ high)
    ∙ (λ i. replaced_below b x y low (λ z e. low_not_like o x y z like e) r.last i ++ (k, picked (is_like b x y) like x y i) ∷ replaced_above b x y high (λ z e. high_not_like o x y z like e) r.first i)

-- the whole with the item in the place of its like, apart and few
whole_apart : {T S : Type 0} (m : Sums T S) (b : T → T → Bool) (ns : List (Node T S)) (root : ℕ) (x : T) (es all : List (Entry T)) → HasTree m ns root es → replaced_in b x es ≡ all → AreApart all
whole_apart m b ns root x es all t e = subst AreApart e (replaced_apart b x es t.apart)

whole_few : {T S : Type 0} (m : Sums T S) (b : T → T → Bool) (ns : List (Node T S)) (root : ℕ) (x : T) (es all : List (Entry T)) → HasTree m ns root es → replaced_in b x es ≡ all → length all < 2 ^ 32
whole_few m b ns root x es all t e =
    let few : length es < 2 ^ 32 = t.few in
    let same : length (replaced_in b x es) ≡ length es = replaced_length b x es in
    let is : length (replaced_in b x es) ≡ length all = ap length e in
    omega arith

-- ---- the trees round a node

left_has : {T S : Type 0} (m : Sums T S) (ns : List (Node T S)) (root : ℕ) (n : Node T S) (es : List (Entry T)) → HasTree m ns root es → node_at ns root ≡ Some n → (o : Opened m ns root n es) → HasTree m ns n.left o.low
left_has m ns root n es t is o = left_root m ns root n.item n.left n.right o.low o.high (opened_parts m ns root n es t is o)

right_has : {T S : Type 0} (m : Sums T S) (ns : List (Node T S)) (root : ℕ) (n : Node T S) (es : List (Entry T)) → HasTree m ns root es → node_at ns root ≡ Some n → (o : Opened m ns root n es) → HasTree m ns n.right o.high
right_has m ns root n es t is o = right_root m ns root n.item n.left n.right o.low o.high (opened_parts m ns root n es t is o)

left_equation : {T S : Type 0} (m : Sums T S) {b : T → T → Bool} → IsOrder b → (x : T) (ns : List (Node T S)) (root : ℕ) (n : Node T S) (es : List (Entry T)) → b x n.item ≡ true → IsSorted b (items_of es) → (o : Opened m ns root n es)
    → replaced_in b x es ≡ replaced_in b x o.low ++ (root, n.item) ∷ o.high
left_equation m {b = b} order x ns root n es before s o = ap (replaced_in b x) o.whole ∙ replaced_left order x o.low root n.item o.high before (round m b ns root n es o s)

right_equation : {T S : Type 0} (m : Sums T S) {b : T → T → Bool} → IsOrder b → (x : T) (ns : List (Node T S)) (root : ℕ) (n : Node T S) (es : List (Entry T)) → b n.item x ≡ true → IsSorted b (items_of es) → (o : Opened m ns root n es)
    → replaced_in b x es ≡ o.low ++ (root, n.item) ∷ replaced_in b x o.high
right_equation m {b = b} order x ns root n es behind s o = ap (replaced_in b x) o.whole ∙ replaced_right order x o.low root n.item o.high behind (round m b ns root n es o s)

here_equation : {T S : Type 0} (m : Sums T S) {b : T → T → Bool} → IsOrder b → (x : T) (ns : List (Node T S)) (root : ℕ) (n : Node T S) (es : List (Entry T)) → is_like b x n.item ≡ true → IsSorted b (items_of es) → (o : Opened m ns root n es)
    → replaced_in b x es ≡ o.low ++ (root, x) ∷ o.high
here_equation m {b = b} order x ns root n es like s o = ap (replaced_in b x) o.whole ∙ replaced_here order x o.low root n.item o.high like (round m b ns root n es o s)

left_parts : {T S : Type 0} (m : Sums T S) (b : T → T → Bool) (x : T) (old mid : List (Node T S)) (root : ℕ) (n : Node T S) (es : List (Entry T)) → HasTree m old root es → node_at old root ≡ Some n → (o : Opened m old root n es)
    → replaced_in b x es ≡ replaced_in b x o.low ++ (root, n.item) ∷ o.high → Becomes m old mid n.left (replaced_in b x o.low) → HasParts m mid root n.item n.left n.right (replaced_in b x o.low) o.high
left_parts m b x old mid root n es t is o e low =
    left_is_other m old mid root n.item n.left n.right n.left o.low (replaced_in b x o.low) o.high (opened_parts m old root n es t is o) low.stands
    (λ j out. low.same j (replaced_has b x j o.low ∙ out)) (whole_apart m b old root x es _ t e) (whole_few m b old root x es _ t e)

right_parts : {T S : Type 0} (m : Sums T S) (b : T → T → Bool) (x : T) (old mid : List (Node T S)) (root : ℕ) (n : Node T S) (es : List (Entry T)) → HasTree m old root es → node_at old root ≡ Some n → (o : Opened m old root n es)
    → replaced_in b x es ≡ o.low ++ (root, n.item) ∷ replaced_in b x o.high → Becomes m old mid n.right (replaced_in b x o.high) → HasParts m mid root n.item n.left n.right o.low (replaced_in b x o.high)
right_parts m b x old mid root n es t is o e high =
    right_is_other m old mid root n.item n.left n.right n.right o.low o.high (replaced_in b x o.high) (opened_parts m old root n es t is o) high.stands
    (λ j out. high.same j (replaced_has b x j o.high ∙ out)) (whole_apart m b old root x es _ t e) (whole_few m b old root x es _ t e)

here_parts : {T S : Type 0} (m : Sums T S) (b : T → T → Bool) (x : T) (old : List (Node T S)) (root : ℕ) (n : Node T S) (es : List (Entry T)) → HasTree m old root es → node_at old root ≡ Some n → (o : Opened m old root n es)
    → replaced_in b x es ≡ o.low ++ (root, x) ∷ o.high → HasParts m old root x n.left n.right o.low o.high
here_parts m b x old root n es t is o e = record {
  is_place = ap is_some is;
  left_tree = o.left_tree;
  right_tree = o.right_tree;
  apart = whole_apart m b old root x es _ t e;
  few = whole_few m b old root x es _ t e;
}

-- ---- the clauses

pub can_set_left : {T S : Type 0} (m : Sums T S) (b : T → T → Bool) (ns : List (Node T S)) (root : ℕ) (n : Node T S) → node_at ns root ≡ Some n → StandsInOrder m b ns root → StandsInOrder m b ns n.left
can_set_left m b ns root n is p =
    let o : Opened m ns root n p.0 = opens n p.1.stands is in
    (o.low, left_has m ns root n p.0 p.1 is o, (round m b ns root n p.0 o p.2).low_sorted)

pub can_set_right : {T S : Type 0} (m : Sums T S) (b : T → T → Bool) (ns : List (Node T S)) (root : ℕ) (n : Node T S) → node_at ns root ≡ Some n → StandsInOrder m b ns root → StandsInOrder m b ns n.right
can_set_right m b ns root n is p =
    let o : Opened m ns root n p.0 = opens n p.1.stands is in
    (o.high, right_has m ns root n p.0 p.1 is o, (round m b ns root n p.0 o p.2).high_sorted)

pub can_fork_left_set : {T S : Type 0} (m : Sums T S) {b : T → T → Bool} → IsOrder b → (x : T) (old mid : List (Node T S)) (root : ℕ) (n : Node T S) → node_at old root ≡ Some n → b x n.item ≡ true
    → StandsInOrder m b old root → TakesPlace m b x old mid n.left → CanFork m mid root n.item n.left n.right
can_fork_left_set m {b = b} order x old mid root n is before p f =
    let o : Opened m old root n p.0 = opens n p.1.stands is in
    let q = left_equation m order x old root n p.0 before p.2 o in
    (replaced_in b x o.low, o.high, left_parts m b x old mid root n p.0 p.1 is o q (f o.low (left_has m old root n p.0 p.1 is o) (round m b old root n p.0 o p.2).low_sorted))

pub can_fork_right_set : {T S : Type 0} (m : Sums T S) {b : T → T → Bool} → IsOrder b → (x : T) (old mid : List (Node T S)) (root : ℕ) (n : Node T S) → node_at old root ≡ Some n → b n.item x ≡ true
    → StandsInOrder m b old root → TakesPlace m b x old mid n.right → CanFork m mid root n.item n.left n.right
can_fork_right_set m {b = b} order x old mid root n is behind p f =
    let o : Opened m old root n p.0 = opens n p.1.stands is in
    let q = right_equation m order x old root n p.0 behind p.2 o in
    (o.low, replaced_in b x o.high, right_parts m b x old mid root n p.0 p.1 is o q (f o.high (right_has m old root n p.0 p.1 is o) (round m b old root n p.0 o p.2).high_sorted))

pub can_fork_here : {T S : Type 0} (m : Sums T S) {b : T → T → Bool} → IsOrder b → (x : T) (old : List (Node T S)) (root : ℕ) (n : Node T S) → node_at old root ≡ Some n → b x n.item ≡ false → b n.item x ≡ false
    → StandsInOrder m b old root → CanFork m old root x n.left n.right
can_fork_here m {b = b} order x old root n is before behind p =
    let o : Opened m old root n p.0 = opens n p.1.stands is in
    (o.low, o.high, here_parts m b x old root n p.0 p.1 is o (here_equation m order x old root n p.0 (like_is _ _ before behind) p.2 o))

pub set_left : {T S : Type 0} (m : Sums T S) {b : T → T → Bool} → IsOrder b → (x : T) (old mid new : List (Node T S)) (root : ℕ) (n : Node T S) → node_at old root ≡ Some n → b x n.item ≡ true
    → TakesPlace m b x old mid n.left → Forks m mid new root n.item n.left n.right root → TakesPlace m b x old new root
set_left m {b = b} order x old mid new root n is before f forks es t s =
    let o : Opened m old root n es = opens n t.stands is in
    let q = left_equation m order x old root n es before s o in
    let low : Becomes m old mid n.left (replaced_in b x o.low) = f o.low (left_has m old root n es t is o) (round m b old root n es o s).low_sorted in
    let now : Becomes m mid new root (replaced_in b x o.low ++ (root, n.item) ∷ o.high) = forks (replaced_in b x o.low) o.high (left_parts m b x old mid root n es t is o q low) in
    subst (λ l. Becomes m old new root l) (sym q)
    (after_that m old mid new (replaced_in b x o.low) (replaced_in b x o.low ++ (root, n.item) ∷ o.high) root low.same (λ j out. not_low j (replaced_in b x o.low) _ out) now)

pub set_right : {T S : Type 0} (m : Sums T S) {b : T → T → Bool} → IsOrder b → (x : T) (old mid new : List (Node T S)) (root : ℕ) (n : Node T S) → node_at old root ≡ Some n → b n.item x ≡ true
    → TakesPlace m b x old mid n.right → Forks m mid new root n.item n.left n.right root → TakesPlace m b x old new root
set_right m {b = b} order x old mid new root n is behind f forks es t s =
    let o : Opened m old root n es = opens n t.stands is in
    let q = right_equation m order x old root n es behind s o in
    let high : Becomes m old mid n.right (replaced_in b x o.high) = f o.high (right_has m old root n es t is o) (round m b old root n es o s).high_sorted in
    let now : Becomes m mid new root (o.low ++ (root, n.item) ∷ replaced_in b x o.high) = forks o.low (replaced_in b x o.high) (right_parts m b x old mid root n es t is o q high) in
    subst (λ l. Becomes m old new root l) (sym q)
    (after_that m old mid new (replaced_in b x o.high) (o.low ++ (root, n.item) ∷ replaced_in b x o.high) root high.same (λ j out. not_middle j o.low (root, n.item) (replaced_in b x o.high) out) now)

pub set_at_root : {T S : Type 0} (m : Sums T S) {b : T → T → Bool} → IsOrder b → (x : T) (old new : List (Node T S)) (root : ℕ) (n : Node T S) → node_at old root ≡ Some n → b x n.item ≡ false → b n.item x ≡ false
    → Forks m old new root x n.left n.right root → TakesPlace m b x old new root
set_at_root m {b = b} order x old new root n is before behind forks es t s =
    let o : Opened m old root n es = opens n t.stands is in
    let q = here_equation m order x old root n es (like_is _ _ before behind) s o in
    subst (λ l. Becomes m old new root l) (sym q) (forks o.low o.high (here_parts m b x old root n es t is o q))

-- ---- in a grove

pub can_set : {T S : Type 0} (m : Sums T S) (b : T → T → Bool) (ns ms : List (Node T S)) (rs : List ℕ) (spares : Spares) (k r : ℕ) (trees : List (List T)) → Reads m b ns ms rs spares k r trees → StandsInOrder m b ms r
can_set m b ns ms rs spares k r trees d = (entries_at ns (slice_index_or rs k 0), read_tree m b ns ms rs spares k r trees d, d.grove.sorted k (within_rows (items_at ns) rs k trees d.rows d.within))

-- the trees stand, one of them with the item in the place of its like
set_apart : {T S : Type 0} (m : Sums T S) (b : T → T → Bool) (old new : List (Node T S)) (rs : List ℕ) (ess : List (List (Entry T))) (i r : ℕ) (x : T) (es : List (Entry T)) → StandApart m old rs ess 0 → i < length rs → length new ≡ length old
    → entries_in ess i ≡ es → Becomes m old new r (replaced_in b x es) → StandApart m new (set rs i r) (set ess i (replaced_in b x es)) 0
set_apart {T = T} m b old new rs ess i r x es s lt len is now =
    set_stands m old new rs ess 0 0 i r (replaced_in b x es) s lt now.stands (replaced_apart b x es (subst AreApart is (s.apart i)))
    (λ j p ne h. now.same p (replaced_has b x p es ∙ ap (has_place p) (sym is) ∙ s.two j i (turned i j ne) p h))
    (λ j p ne h. s.two i j ne p (ap (has_place p) is ∙ sym (replaced_has b x p es) ∙ h))
    counted
  where
    turned : (j k : ℕ) → (j == k) ≡ false → (k == j) ≡ false
    turned j k h = grind arith

    counted : count_of (set ess i (replaced_in b x es)) + 0 ≡ length new
    counted =
        (let e : length ess ≡ length rs = s.as_many in
        let sum : count_of (set ess i (replaced_in b x es)) + length (entries_in ess i) ≡ count_of ess + length (replaced_in b x es) = count_set ess i (replaced_in b x es) (omega arith) in
        let all : count_of ess + 0 ≡ length old = s.counted in
        let same : length (replaced_in b x es) ≡ length es = replaced_length b x es in
        let n : length (entries_in ess i) ≡ length es = ap length is in
        omega arith)

set_same : (rs : List ℕ) (k : ℕ) → set rs k (slice_index_or rs k 0) ≡ rs
set_same [] k = refl
set_same (r ∷ rs) zero = refl
set_same (r ∷ rs) (suc k) = ap (λ l. r ∷ l) (set_same rs k)

was_set : {T S : Type 0} (m : Sums T S) {b : T → T → Bool} → IsOrder b → (old new : List (Node T S)) (rs : List ℕ) (spares : Spares) (k : ℕ) (x : T) → IsGrove m b old rs spares → k < length rs → length new ≡ length old
    → TakesPlace m b x old new (slice_index_or rs k 0) → GroveBecomes m b old new rs rs spares k (replaced b x (items_at old (slice_index_or rs k 0)))
was_set {T = T} m {b = b} order old new rs spares k x s lt len f =
    let root = slice_index_or rs k 0 in
    let es = entries_at old root in
    let now : Becomes m old new root (replaced_in b x es) = f es (grove_tree m b old rs spares k s lt) (s.sorted k lt) in
    let t = set_apart m b old new (spares.root ∷ rs) (entries_at old spares.root ∷ map (entries_at old) rs) (suc k) root x es s.stands (omega arith) len (map_get (entries_at old) rs k lt) now in
    let items : items_of (replaced_in b x es) ≡ replaced b x (items_of es) = replaced_items b x es in
    let short : length old ≤ 4294967295 = s.short in
    subst (λ (l : List ℕ). GroveBecomes m b old new rs l spares k (replaced b x (items_of es))) (set_same rs k)
    (subst (λ (l : List T). GroveBecomes m b old new rs (set rs k root) spares k l) items
    (grove_after m b old new rs spares spares k root (entries_at old spares.root) (replaced_in b x es) s lt t
    (subst (IsSorted b) (sym items) (replaced_sorted order x (items_of es) (s.sorted k lt))) s.counted (omega arith)))

-- the grove whose nodes were written back
pub set_grove : {T S : Type 0} (m : Sums T S) {b : T → T → Bool} → IsOrder b → (ns ms new : List (Node T S)) (rs : List ℕ) (spares : Spares) (k r : ℕ) (trees : List (List T)) (x : T) (n : ℕ) → Reads m b ns ms rs spares k r trees
    → length new ≡ length ms → length ms ≡ n → TakesPlace m b x ms new r → GroveBecomes m b ns (take n (new ++ drop (length new) ns)) rs rs spares k (replaced b x (items_at ns (slice_index_or rs k 0)))
set_grove {T = T} {S = S} m {b = b} order ns ms new rs spares k r trees x n d len size f =
    let lt = within_rows (items_at ns) rs k trees d.rows d.within in
    let whole : length ms ≡ length ns = ap length d.slice in
    let at : TakesPlace m b x ms new (slice_index_or rs k 0) = subst (λ (j : ℕ). TakesPlace m b x ms new j) (row_read rs k r lt d.root) f in
    let from : TakesPlace m b x ns new (slice_index_or rs k 0) = subst (λ (l : List (Node T S)). TakesPlace m b x l new (slice_index_or rs k 0)) d.slice at in
    subst (λ (l : List (Node T S)). GroveBecomes m b ns l rs rs spares k (replaced b x (items_at ns (slice_index_or rs k 0)))) (sym (written n new ns (omega arith) (omega arith)))
    (was_set m order ns new rs spares k x d.grove lt (omega arith) from)

pub set_trees : {T S : Type 0} (m : Sums T S) (b : T → T → Bool) (ns ms new : List (Node T S)) (rs : List ℕ) (spares : Spares) (k r : ℕ) (trees : List (List T)) (x : T) → Reads m b ns ms rs spares k r trees
    → GroveBecomes m b ns new rs rs spares k (replaced b x (items_at ns (slice_index_or rs k 0))) → map (items_at new) rs ≡ set trees k (replaced b x (items_in trees k))
set_trees m b ns ms new rs spares k r trees x d g = g.trees ∙ (λ i. set (d.rows i) k (replaced b x (row_is ns rs k trees d.rows d.within i)))
