-- An item that enters a tree.
use Rattle.std.proofs.Common.{◌≡◌, ◌∙◌, ◌<◌, ◌+◌, ◌^◌, ℕ, List, [], ◌∷◌, ◌++◌, length, Some, None, Bool, true, false, ◌||◌, refl, sym, ap, subst, arith, length-append}
use Rattle.std.specs.Prelude.{◌==◌, is_some}
use Rattle.sum_trees.specs.Sums.{Sums}
use Rattle.sum_trees.specs.Nodes.{Entry, node_at, height_at, height_in, AreApart, items_of}
use Rattle.sum_trees.specs.Order.{IsSorted, placed}
use Rattle.sum_trees.specs.Trees.{IsTree, HasParts, CanFork, Becomes, Forks}
use Rattle.sum_trees.specs.Changes.{HasSpace, CanEnter, Entered}
use Rattle.sum_trees.specs.declared.nodes.Node.{Node}
use Rattle.sum_trees.proofs.Places.{not_right, Cut, cut_of, apart_left}
use Rattle.sum_trees.proofs.Standing.{tree_stays, Opened, opens, is_empty, no_tree, items_append}
use Rattle.sum_trees.proofs.Turns.{not_low, not_middle, still_place, after_that}
use Rattle.sum_trees.proofs.Orders.{IsOrder, sorted_low, sorted_high, sorted_last, placed_low, placed_high, placed_length, placed_apart}

-- ---- into the empty tree

pub can_start : {T S : Type 0} (m : Sums T S) (b : T → T → Bool) (ns : List (Node T S)) (root k : ℕ) (x : T) → CanEnter m b ns root k x → CanFork m ns k x 4294967295 4294967295
can_start m b ns root k x p = (
  [],
  [],
  record {
    is_place = p.1.is_place;
    left_tree = no_tree m ns;
    right_tree = no_tree m ns;
    apart = (refl, tt);
    few = omega arith;
  },
)

pub started : {T S : Type 0} (m : Sums T S) (b : T → T → Bool) (old new : List (Node T S)) (root k : ℕ) (x : T) → node_at old root ≡ None → Forks m old new k x 4294967295 4294967295 k → Entered m b old new root k x k
started m b old new root k x e f es p =
    let empty : es ≡ [] = is_empty p.stands e in
    subst (λ l. Becomes m old new k (placed b (k, x) l)) (sym empty)
    (f [] [] (record { is_place = p.is_place; left_tree = no_tree m old; right_tree = no_tree m old; apart = (refl, tt); few = omega arith }))

-- ---- on the left

sorted_items : {T S : Type 0} (m : Sums T S) (b : T → T → Bool) (ns : List (Node T S)) (root k : ℕ) (x : T) (es : List (Entry T)) (n : Node T S) → HasSpace m b ns root k x es → (o : Opened m ns root n es)
    → IsSorted b (items_of o.low ++ n.item ∷ items_of o.high)
sorted_items m b ns root k x es n p o =
    subst (IsSorted b) (items_append o.low ((root, n.item) ∷ o.high)) (subst (λ l. IsSorted b (items_of l)) o.whole p.sorted)

low_space : {T S : Type 0} (m : Sums T S) (b : T → T → Bool) (ns : List (Node T S)) (root k : ℕ) (x : T) (es : List (Entry T)) (n : Node T S) → HasSpace m b ns root k x es → (o : Opened m ns root n es) → HasSpace m b ns n.left k x o.low
low_space m b ns root k x es n p o =
    let apart : AreApart ((k, x) ∷ (o.low ++ (root, n.item) ∷ o.high)) = subst (λ l. AreApart ((k, x) ∷ l)) o.whole p.apart in
    let few : length (o.low ++ (root, n.item) ∷ o.high) + 1 < 2 ^ 32 = subst (λ (l : List (Entry _)). length l + 1 < 2 ^ 32) o.whole p.few in
    record {
      stands = o.left_tree;
      is_place = p.is_place;
      apart = (not_low k o.low _ apart.0, apart_left o.low _ apart.1);
      few = omega (arith, length-append o.low ((root, n.item) ∷ o.high));
      sorted = sorted_low b (items_of o.low) _ (sorted_items m b ns root k x es n p o);
    }

high_space : {T S : Type 0} (m : Sums T S) (b : T → T → Bool) (ns : List (Node T S)) (root k : ℕ) (x : T) (es : List (Entry T)) (n : Node T S) → HasSpace m b ns root k x es → (o : Opened m ns root n es) → HasSpace m b ns n.right k x o.high
high_space m b ns root k x es n p o =
    let apart : AreApart ((k, x) ∷ (o.low ++ (root, n.item) ∷ o.high)) = subst (λ l. AreApart ((k, x) ∷ l)) o.whole p.apart in
    let few : length (o.low ++ (root, n.item) ∷ o.high) + 1 < 2 ^ 32 = subst (λ (l : List (Entry _)). length l + 1 < 2 ^ 32) o.whole p.few in
    record {
      stands = o.right_tree;
      is_place = p.is_place;
      apart = (not_middle k o.low (root, n.item) o.high apart.0, (cut_of o.low (root, n.item) o.high apart.1).high_apart);
      few = omega (arith, length-append o.low ((root, n.item) ∷ o.high));
      sorted = (sorted_high b (items_of o.low) (n.item ∷ items_of o.high) (sorted_items m b ns root k x es n p o)).1;
    }

-- the whole with the item at its place, apart and few
whole_apart : {T S : Type 0} (m : Sums T S) (b : T → T → Bool) (ns : List (Node T S)) (root k : ℕ) (x : T) (es all : List (Entry T)) → HasSpace m b ns root k x es → placed b (k, x) es ≡ all → AreApart all
whole_apart m b ns root k x es all p e = subst AreApart e (placed_apart b (k, x) es p.apart)

whole_few : {T S : Type 0} (m : Sums T S) (b : T → T → Bool) (ns : List (Node T S)) (root k : ℕ) (x : T) (es all : List (Entry T)) → HasSpace m b ns root k x es → placed b (k, x) es ≡ all → length all < 2 ^ 32
whole_few m b ns root k x es all p e =
    let few : length es + 1 < 2 ^ 32 = p.few in
    subst (λ (l : List (Entry _)). length l < 2 ^ 32) e (let n : length (placed b (k, x) es) ≡ length es + 1 = placed_length b (k, x) es in omega arith)

some_place : {T S : Type 0} (ns : List (Node T S)) (k : ℕ) (n : Node T S) → node_at ns k ≡ Some n → is_some (node_at ns k) ≡ true
some_place ns k n e = ap is_some e

left_parts : {T S : Type 0} (m : Sums T S) (b : T → T → Bool) (ns mid : List (Node T S)) (root k : ℕ) (x : T) (es : List (Entry T)) (n : Node T S) (left : ℕ) → HasSpace m b ns root k x es → node_at ns root ≡ Some n → (o : Opened m ns root n es)
    → placed b (k, x) es ≡ placed b (k, x) o.low ++ (root, n.item) ∷ o.high → Becomes m ns mid left (placed b (k, x) o.low) → HasParts m mid root n.item left n.right (placed b (k, x) o.low) o.high
left_parts m b ns mid root k x es n left p is o e low =
    let apart : AreApart (placed b (k, x) o.low ++ (root, n.item) ∷ o.high) = whole_apart m b ns root k x es _ p e in
    let c : Cut (placed b (k, x) o.low) (root, n.item) o.high = cut_of (placed b (k, x) o.low) (root, n.item) o.high apart in
    record {
      is_place = still_place _ ns mid root low.same c.not_low (some_place ns root n is);
      left_tree = low.stands;
      right_tree = tree_stays o.right_tree (λ j h. low.same j (c.high_not j (right_or (root == j) _ h)));
      apart = apart;
      few = whole_few m b ns root k x es _ p e;
    }
  where
    right_or : (a b : Bool) → b ≡ true → (a || b) ≡ true
    right_or true b e = refl
    right_or false b e = e

right_parts : {T S : Type 0} (m : Sums T S) (b : T → T → Bool) (ns mid : List (Node T S)) (root k : ℕ) (x : T) (es : List (Entry T)) (n : Node T S) (right : ℕ) → HasSpace m b ns root k x es → node_at ns root ≡ Some n → (o : Opened m ns root n es)
    → placed b (k, x) es ≡ o.low ++ (root, n.item) ∷ placed b (k, x) o.high → Becomes m ns mid right (placed b (k, x) o.high) → HasParts m mid root n.item n.left right o.low (placed b (k, x) o.high)
right_parts m b ns mid root k x es n right p is o e high =
    let apart : AreApart (o.low ++ (root, n.item) ∷ placed b (k, x) o.high) = whole_apart m b ns root k x es _ p e in
    let c : Cut o.low (root, n.item) (placed b (k, x) o.high) = cut_of o.low (root, n.item) (placed b (k, x) o.high) apart in
    record {
      is_place = still_place _ ns mid root high.same c.not_high (some_place ns root n is);
      left_tree = tree_stays o.left_tree (λ j h. high.same j (not_right _ _ (c.low_not j h)));
      right_tree = high.stands;
      apart = apart;
      few = whole_few m b ns root k x es _ p e;
    }

-- the two equations of the list

left_equation : {T S : Type 0} (m : Sums T S) (b : T → T → Bool) (ns : List (Node T S)) (root k : ℕ) (x : T) (es : List (Entry T)) (n : Node T S) → b x n.item ≡ true → (o : Opened m ns root n es)
    → placed b (k, x) es ≡ placed b (k, x) o.low ++ (root, n.item) ∷ o.high
left_equation m b ns root k x es n is o = ap (placed b (k, x)) o.whole ∙ placed_low b (k, x) o.low (root, n.item) o.high is

right_equation : {T S : Type 0} (m : Sums T S) {b : T → T → Bool} → IsOrder b → (ns : List (Node T S)) (root k : ℕ) (x : T) (es : List (Entry T)) (n : Node T S) → HasSpace m b ns root k x es → b x n.item ≡ false → (o : Opened m ns root n es)
    → placed b (k, x) es ≡ o.low ++ (root, n.item) ∷ placed b (k, x) o.high
right_equation m {b = b} order ns root k x es n p is o =
    ap (placed b (k, x)) o.whole
    ∙ placed_high order (k, x) o.low (root, n.item) o.high is (sorted_last b (items_of o.low) n.item (items_of o.high) (sorted_items m b ns root k x es n p o))

-- ---- the clauses

pub can_left : {T S : Type 0} (m : Sums T S) (b : T → T → Bool) (ns : List (Node T S)) (root k : ℕ) (x : T) (n : Node T S) → node_at ns root ≡ Some n → CanEnter m b ns root k x → CanEnter m b ns n.left k x
can_left m b ns root k x n e p = let o : Opened m ns root n p.0 = opens n p.1.stands e in (o.low, low_space m b ns root k x p.0 n p.1 o)

pub can_right : {T S : Type 0} (m : Sums T S) (b : T → T → Bool) (ns : List (Node T S)) (root k : ℕ) (x : T) (n : Node T S) → node_at ns root ≡ Some n → CanEnter m b ns root k x → CanEnter m b ns n.right k x
can_right m b ns root k x n e p = let o : Opened m ns root n p.0 = opens n p.1.stands e in (o.high, high_space m b ns root k x p.0 n p.1 o)

pub can_fork_left : {T S : Type 0} (m : Sums T S) (b : T → T → Bool) (ns mid : List (Node T S)) (root k : ℕ) (x : T) (n : Node T S) (left : ℕ) → node_at ns root ≡ Some n → b x n.item ≡ true
    → CanEnter m b ns root k x → Entered m b ns mid n.left k x left → CanFork m mid root n.item left n.right
can_fork_left m b ns mid root k x n left e is p f =
    let o : Opened m ns root n p.0 = opens n p.1.stands e in
    (placed b (k, x) o.low, o.high, left_parts m b ns mid root k x p.0 n left p.1 e o (left_equation m b ns root k x p.0 n is o) (f o.low (low_space m b ns root k x p.0 n p.1 o)))

pub can_fork_right : {T S : Type 0} (m : Sums T S) {b : T → T → Bool} → IsOrder b → (ns mid : List (Node T S)) (root k : ℕ) (x : T) (n : Node T S) (right : ℕ) → node_at ns root ≡ Some n → b x n.item ≡ false
    → CanEnter m b ns root k x → Entered m b ns mid n.right k x right → CanFork m mid root n.item n.left right
can_fork_right m {b = b} order ns mid root k x n right e is p f =
    let o : Opened m ns root n p.0 = opens n p.1.stands e in
    (o.low, placed b (k, x) o.high, right_parts m b ns mid root k x p.0 n right p.1 e o (right_equation m order ns root k x p.0 n p.1 is o) (f o.high (high_space m b ns root k x p.0 n p.1 o)))

-- the node of the root is as it was

pub left_held : {T S : Type 0} (m : Sums T S) (b : T → T → Bool) (ns mid : List (Node T S)) (root k : ℕ) (x : T) (n : Node T S) (left : ℕ) → node_at ns root ≡ Some n → b x n.item ≡ true
    → CanEnter m b ns root k x → Entered m b ns mid n.left k x left → node_at mid root ≡ Some n
left_held m b ns mid root k x n left e is p f =
    let o : Opened m ns root n p.0 = opens n p.1.stands e in
    let low : Becomes m ns mid left (placed b (k, x) o.low) = f o.low (low_space m b ns root k x p.0 n p.1 o) in
    let c : Cut (placed b (k, x) o.low) (root, n.item) o.high = cut_of (placed b (k, x) o.low) (root, n.item) o.high (whole_apart m b ns root k x p.0 _ p.1 (left_equation m b ns root k x p.0 n is o)) in
    low.same root c.not_low ∙ e

pub right_held : {T S : Type 0} (m : Sums T S) {b : T → T → Bool} → IsOrder b → (ns mid : List (Node T S)) (root k : ℕ) (x : T) (n : Node T S) (right : ℕ) → node_at ns root ≡ Some n → b x n.item ≡ false
    → CanEnter m b ns root k x → Entered m b ns mid n.right k x right → node_at mid root ≡ Some n
right_held m {b = b} order ns mid root k x n right e is p f =
    let o : Opened m ns root n p.0 = opens n p.1.stands e in
    let high : Becomes m ns mid right (placed b (k, x) o.high) = f o.high (high_space m b ns root k x p.0 n p.1 o) in
    let c : Cut o.low (root, n.item) (placed b (k, x) o.high) = cut_of o.low (root, n.item) (placed b (k, x) o.high) (whole_apart m b ns root k x p.0 _ p.1 (right_equation m order ns root k x p.0 n p.1 is o)) in
    high.same root c.not_high ∙ e

pub entered_left : {T S : Type 0} (m : Sums T S) (b : T → T → Bool) (old mid new : List (Node T S)) (root k : ℕ) (x : T) (n : Node T S) (left now : ℕ) → node_at old root ≡ Some n → b x n.item ≡ true
    → Entered m b old mid n.left k x left → Forks m mid new root n.item left n.right now → Entered m b old new root k x now
entered_left m b old mid new root k x n left now e is f1 f2 es p =
    let o : Opened m old root n es = opens n p.stands e in
    let q = left_equation m b old root k x es n is o in
    let b1 : Becomes m old mid left (placed b (k, x) o.low) = f1 o.low (low_space m b old root k x es n p o) in
    let b2 : Becomes m mid new now (placed b (k, x) o.low ++ (root, n.item) ∷ o.high) = f2 (placed b (k, x) o.low) o.high (left_parts m b old mid root k x es n left p e o q b1) in
    subst (λ l. Becomes m old new now l) (sym q)
    (after_that m old mid new (placed b (k, x) o.low) (placed b (k, x) o.low ++ (root, n.item) ∷ o.high) now b1.same (λ j out. not_low j (placed b (k, x) o.low) _ out) b2)

pub entered_right : {T S : Type 0} (m : Sums T S) {b : T → T → Bool} → IsOrder b → (old mid new : List (Node T S)) (root k : ℕ) (x : T) (n : Node T S) (right now : ℕ) → node_at old root ≡ Some n → b x n.item ≡ false
    → Entered m b old mid n.right k x right → Forks m mid new root n.item n.left right now → Entered m b old new root k x now
entered_right m {b = b} order old mid new root k x n right now e is f1 f2 es p =
    let o : Opened m old root n es = opens n p.stands e in
    let q = right_equation m order old root k x es n p is o in
    let b1 : Becomes m old mid right (placed b (k, x) o.high) = f1 o.high (high_space m b old root k x es n p o) in
    let b2 : Becomes m mid new now (o.low ++ (root, n.item) ∷ placed b (k, x) o.high) = f2 o.low (placed b (k, x) o.high) (right_parts m b old mid root k x es n right p e o q b1) in
    subst (λ l. Becomes m old new now l) (sym q)
    (after_that m old mid new (placed b (k, x) o.high) (o.low ++ (root, n.item) ∷ placed b (k, x) o.high) now b1.same (λ j out. not_middle j o.low (root, n.item) (placed b (k, x) o.high) out) b2)

-- ---- the measure

pub low_falls : {T S : Type 0} (m : Sums T S) (ns : List (Node T S)) (root : ℕ) (n : Node T S) (es : List (Entry T)) → node_at ns root ≡ Some n → IsTree m ns root es → height_at ns n.left < height_at ns root
low_falls m ns root n es e t =
    let o : Opened m ns root n es = opens n t e in
    let h : height_at ns root ≡ n.height = ap height_in e in
    let l : height_at ns n.left < n.height = o.left_lower in
    omega arith

pub high_falls : {T S : Type 0} (m : Sums T S) (ns : List (Node T S)) (root : ℕ) (n : Node T S) (es : List (Entry T)) → node_at ns root ≡ Some n → IsTree m ns root es → height_at ns n.right < height_at ns root
high_falls m ns root n es e t =
    let o : Opened m ns root n es = opens n t e in
    let h : height_at ns root ≡ n.height = ap height_in e in
    let l : height_at ns n.right < n.height = o.right_lower in
    omega arith
