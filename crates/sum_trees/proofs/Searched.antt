-- What searches of a tree tell.
use Rattle.std.proofs.Common.{◌≡◌, ◌∙◌, ◌≤◌, ℕ, zero, suc, List, [], ◌∷◌, ◌++◌, Option, Some, None, Bool, true, false, refl, sym, ap, arith}
use Rattle.std.specs.Prelude.{filter, option_map}
use Rattle.sum_trees.specs.Sums.{Sums}
use Rattle.sum_trees.specs.Nodes.{Entry, node_at, item_at, items_of}
use Rattle.sum_trees.specs.Order.{first_of}
use Rattle.sum_trees.specs.Trees.{Tree, Leaf, Fork, place_of, entries_of, height_of, StandsIn, IsTree}
use Rattle.sum_trees.specs.Searches.{TellsFirst, TellsPassing, TellsPassingOr, or_else, spread, read_entries, entries_at}
use Rattle.sum_trees.specs.declared.nodes.Node.{Node}
use Rattle.sum_trees.proofs.Standing.{Opened, opens, is_empty, tree_height}
use Rattle.sum_trees.proofs.Orders.{IsRising, first_low, first_high, sorted_low, sorted_high, sorted_last}
use Rattle.sum_trees.proofs.Cuts.{sorted_parts, whole_items}

-- ---- the first

pub first_none : {T S : Type 0} (m : Sums T S) (ns : List (Node T S)) (root : ℕ) → node_at ns root ≡ None → TellsFirst m ns root None
first_none m ns root is es t = sym (ap (λ l. first_of (items_of l)) (is_empty t is))

first_empty : {T : Type 0} (xs : List T) (y : T) (ys : List T) → None ≡ first_of xs → first_of (xs ++ y ∷ ys) ≡ Some y
first_empty [] y ys e = refl
first_empty (x ∷ xs) y ys e = absurd (cc)

first_some : {T : Type 0} (xs : List T) (ys : List T) (z : T) → Some z ≡ first_of xs → first_of (xs ++ ys) ≡ Some z
first_some [] ys z e = absurd (cc)
first_some (x ∷ xs) ys z e = sym e

pub first_root : {T S : Type 0} (m : Sums T S) (ns : List (Node T S)) (root : ℕ) (n : Node T S) → node_at ns root ≡ Some n → TellsFirst m ns n.left None → TellsFirst m ns root (Some n.item)
first_root m ns root n is f es t =
    let o : Opened m ns root n es = opens n t is in
    sym (ap first_of (whole_items m ns root n es o) ∙ first_empty (items_of o.low) n.item (items_of o.high) (f o.low o.left_tree))

pub first_left : {T S : Type 0} (m : Sums T S) (ns : List (Node T S)) (root : ℕ) (n : Node T S) (x : T) → node_at ns root ≡ Some n → TellsFirst m ns n.left (Some x) → TellsFirst m ns root (Some x)
first_left m ns root n x is f es t =
    let o : Opened m ns root n es = opens n t is in
    sym (ap first_of (whole_items m ns root n es o) ∙ first_some (items_of o.low) (n.item ∷ items_of o.high) x (f o.low o.left_tree))

-- ---- the first that passes a test, or another one

pub or_nowhere : {T S : Type 0} (m : Sums T S) (b : T → T → Bool) (p : T → Bool) (ns : List (Node T S)) (root : ℕ) (other : Option T) → node_at ns root ≡ None → TellsPassingOr m b p ns root other other
or_nowhere m b p ns root other is es t s = sym (ap (λ l. or_else (first_of (filter p (items_of l))) other) (is_empty t is))

pub or_high : {T S : Type 0} (m : Sums T S) (b : T → T → Bool) (p : T → Bool) → IsRising b p → (ns : List (Node T S)) (root : ℕ) (n : Node T S) (other told : Option T) → node_at ns root ≡ Some n → p n.item ≡ false
    → TellsPassingOr m b p ns n.right other told → TellsPassingOr m b p ns root other told
or_high m b p rising ns root n other told is out f es t s =
    let o : Opened m ns root n es = opens n t is in
    let sorted = sorted_parts m b ns root n es o s in
    f o.high o.right_tree (sorted_high b (items_of o.low) (n.item ∷ items_of o.high) sorted).1
    ∙ sym (ap (λ l. or_else (first_of (filter p l)) other) (whole_items m ns root n es o) ∙ ap (λ x. or_else x other) (first_high {b = b} p rising (items_of o.low) n.item (items_of o.high) out (sorted_last b (items_of o.low) n.item (items_of o.high) sorted)))

or_both : {T : Type 0} (low whole other : Option T) (y : T) → (low ≡ None → whole ≡ Some y) → ((x : T) → low ≡ Some x → whole ≡ Some x) → or_else low (Some y) ≡ or_else whole other
or_both None whole other y none some = sym (ap (λ x. or_else x other) (none refl))
or_both (Some x) whole other y none some = sym (ap (λ z. or_else z other) (some x refl))

pub or_low : {T S : Type 0} (m : Sums T S) (b : T → T → Bool) (p : T → Bool) (ns : List (Node T S)) (root : ℕ) (n : Node T S) (other told : Option T) → node_at ns root ≡ Some n → p n.item ≡ true
    → TellsPassingOr m b p ns n.left (item_at ns root) told → TellsPassingOr m b p ns root other told
or_low m b p ns root n other told is passes f es t s =
    let o : Opened m ns root n es = opens n t is in
    let sorted = sorted_parts m b ns root n es o s in
    let both = first_low p (items_of o.low) n.item (items_of o.high) passes in
    f o.low o.left_tree (sorted_low b (items_of o.low) _ sorted)
    ∙ ap (λ k. or_else (first_of (filter p (items_of o.low))) (option_map (λ q. q.item) k)) is
    ∙ or_both (first_of (filter p (items_of o.low))) (first_of (filter p (items_of o.low ++ n.item ∷ items_of o.high))) other n.item both.0 both.1
    ∙ sym (ap (λ l. or_else (first_of (filter p l)) other) (whole_items m ns root n es o))

or_none : {T : Type 0} (x : Option T) → or_else x None ≡ x
or_none None = refl
or_none (Some x) = refl

pub without_other : {T S : Type 0} (m : Sums T S) (b : T → T → Bool) (p : T → Bool) (ns : List (Node T S)) (root : ℕ) (found told : Option T) → told ≡ found → TellsPassingOr m b p ns root None found → TellsPassing m b p ns root told
without_other m b p ns root found told is f es t s = is ∙ f es t s ∙ or_none (first_of (filter p (items_of es)))

-- ---- the entries as they are read

read_is : {T S : Type 0} (m : Sums T S) (ns : List (Node T S)) (t : Tree T) (h : ℕ) → StandsIn m ns t → height_of t ≤ h → read_entries h ns (place_of t) ≡ entries_of t
read_is m ns Leaf zero s le = refl
read_is m ns Leaf (suc h) s le = refl
read_is m ns (Fork k l x r) zero s le = absurd (omega arith)
read_is m ns (Fork k l x r) (suc h) s le =
    ap (spread (read_entries h ns) k) s.0.1
    ∙ (λ i. read_entries h ns (s.0.2.its_left i) ++ (k, s.0.2.its_item i) ∷ read_entries h ns (s.0.2.its_right i))
    ∙ (λ i. read_is m ns l h s.1.0 (omega arith) i ++ (k, x) ∷ read_is m ns r h s.1.1 (omega arith) i)

pub entries_are : {T S : Type 0} {m : Sums T S} {ns : List (Node T S)} {k : ℕ} {es : List (Entry T)} → IsTree m ns k es → entries_at ns k ≡ es
entries_are {m = m} {ns = ns} {k = k} t =
    ap (entries_at ns) t.its_place
    ∙ ap (λ h. read_entries h ns (place_of t.tree)) (tree_height m ns t.tree t.stands)
    ∙ read_is m ns t.tree (height_of t.tree) t.stands (omega arith)
    ∙ t.its_entries
