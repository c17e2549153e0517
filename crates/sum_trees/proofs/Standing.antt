-- Trees that stand in nodes: what they tell, and what they keep.
use Rattle.std.proofs.Common.{◌≡◌, ◌∙◌, ◌<◌, ◌≤◌, ◌+◌, ℕ, List, [], ◌∷◌, ◌++◌, length, Some, None, Bool, true, false, ◌||◌, refl, sym, ap, subst, arith, length-append}
use Rattle.std.specs.Prelude.{◌==◌, max, option_map}
use Rattle.sum_trees.specs.Sums.{Sums, sum_of}
use Rattle.sum_trees.specs.Nodes.{Entry, node_at, height_at, height_in, sum_at, has_place, items_of}
use Rattle.sum_trees.specs.Trees.{Tree, Leaf, Fork, place_of, entries_of, height_of, Tells, StandsIn, IsTree}
use Rattle.sum_trees.specs.declared.nodes.Node.{Node}
use Rattle.sum_trees.proofs.Places.{place_append}

pub items_append : {T : Type 0} (xs ys : List (Entry T)) → items_of (xs ++ ys) ≡ items_of xs ++ items_of ys
items_append [] ys = refl
items_append (x ∷ xs) ys = ap (λ l. x.1 ∷ l) (items_append xs ys)

-- ---- what stays

stays : {T S : Type 0} (m : Sums T S) (old new : List (Node T S)) (t : Tree T) → StandsIn m old t → ((k : ℕ) → has_place k (entries_of t) ≡ true → node_at new k ≡ node_at old k) → StandsIn m new t
stays m old new Leaf s same = tt
stays m old new (Fork k l x r) s same = (
  (s.0.0, same k (at_fork k (entries_of l) x (entries_of r)) ∙ s.0.1, s.0.2),
  (
    stays m old new l s.1.0 (λ j h. same j (in_low j (entries_of l) ((k, x) ∷ entries_of r) h)),
    stays m old new r s.1.1 (λ j h. same j (in_high j (entries_of l) k x (entries_of r) h)),
  ),
)
  where
    in_low : {T : Type 0} (j : ℕ) (xs ys : List (Entry T)) → has_place j xs ≡ true → has_place j (xs ++ ys) ≡ true
    in_low j xs ys h = place_append j xs ys ∙ ap (λ b. b || has_place j ys) h

    right_or : (a b : Bool) → b ≡ true → (a || b) ≡ true
    right_or true b e = refl
    right_or false b e = e

    in_high : {T : Type 0} (j : ℕ) (xs : List (Entry T)) (k : ℕ) (x : T) (ys : List (Entry T)) → has_place j ys ≡ true → has_place j (xs ++ (k, x) ∷ ys) ≡ true
    in_high j xs k x ys h = place_append j xs ((k, x) ∷ ys) ∙ right_or (has_place j xs) _ (right_or (k == j) _ h)

    self : (k : ℕ) (b : Bool) → (k == k || b) ≡ true
    self k b = grind arith

    at_fork : {T : Type 0} (k : ℕ) (xs : List (Entry T)) (x : T) (ys : List (Entry T)) → has_place k (xs ++ (k, x) ∷ ys) ≡ true
    at_fork k xs x ys = place_append k xs ((k, x) ∷ ys) ∙ right_or (has_place k xs) _ (self k (has_place k ys))

pub stands_still : {T S : Type 0} {m : Sums T S} {old : List (Node T S)} (new : List (Node T S)) {k : ℕ} {es : List (Entry T)}
    (t : IsTree m old k es) → ((j : ℕ) → has_place j es ≡ true → node_at new j ≡ node_at old j) → StandsIn m new t.tree
stands_still new t same = stays _ _ _ t.tree t.stands (λ j h. same j (subst (λ (l : List (Entry _)). has_place j l ≡ true) t.its_entries h))

pub tree_stays : {T S : Type 0} {m : Sums T S} {old new : List (Node T S)} {k : ℕ} {es : List (Entry T)}
    → IsTree m old k es → ((j : ℕ) → has_place j es ≡ true → node_at new j ≡ node_at old j) → IsTree m new k es
tree_stays t same = record {
  tree = t.tree;
  stands = stands_still _ t same;
  its_place = t.its_place;
  its_entries = t.its_entries;
}

-- ---- the empty tree

pub no_tree : {T S : Type 0} (m : Sums T S) (ns : List (Node T S)) → IsTree m ns 4294967295 []
no_tree m ns = record { tree = Leaf; stands = tt; its_place = refl; its_entries = refl }

-- ---- what the node at its place tells

pub tree_height : {T S : Type 0} (m : Sums T S) (ns : List (Node T S)) (t : Tree T) → StandsIn m ns t → height_at ns (place_of t) ≡ height_of t
tree_height m ns Leaf s = refl
tree_height m ns (Fork k l x r) s = ap height_in s.0.1 ∙ s.0.2.its_height

pub tree_sum : {T S : Type 0} (m : Sums T S) (ns : List (Node T S)) (t : Tree T) → StandsIn m ns t → sum_at ns (place_of t) ≡ sum_of m (items_of (entries_of t))
tree_sum m ns Leaf s = refl
tree_sum m ns (Fork k l x r) s = ap (option_map (λ n. n.sum)) s.0.1 ∙ s.0.2.its_sum ∙ ap (sum_of m) (sym (items_append (entries_of l) ((k, x) ∷ entries_of r)))

height_most : {T : Type 0} (t : Tree T) → height_of t ≤ length (entries_of t)
height_most Leaf = omega arith
height_most (Fork k l x r) = omega (arith, height_most l, height_most r, length-append (entries_of l) ((k, x) ∷ entries_of r))

pub height_is_most : {T S : Type 0} {m : Sums T S} {ns : List (Node T S)} {k : ℕ} {es : List (Entry T)} → IsTree m ns k es → height_at ns k ≤ length es
height_is_most {m = m} {ns = ns} {k = k} {es = es} t =
    let h : height_at ns k ≡ height_of t.tree = ap (height_at ns) t.its_place ∙ tree_height m ns t.tree t.stands in
    let l : length (entries_of t.tree) ≡ length es = ap length t.its_entries in
    omega (arith, height_most t.tree)

pub sum_is : {T S : Type 0} {m : Sums T S} {ns : List (Node T S)} {k : ℕ} {es : List (Entry T)} → IsTree m ns k es → sum_at ns k ≡ sum_of m (items_of es)
sum_is {m = m} {ns = ns} t = ap (sum_at ns) t.its_place ∙ tree_sum m ns t.tree t.stands ∙ ap (λ l. sum_of m (items_of l)) t.its_entries

-- ---- a tree taken apart

-- the trees of a fork
pub record Opened {T S : Type 0} (m : Sums T S) (ns : List (Node T S)) (k : ℕ) (n : Node T S) (es : List (Entry T)) : Type 0 where
  pub low : List (Entry T)
  pub high : List (Entry T)
  pub left_tree : IsTree m ns n.left low
  pub right_tree : IsTree m ns n.right high
  pub whole : es ≡ low ++ (k, n.item) ∷ high
  pub left_lower : height_at ns n.left < n.height
  pub right_lower : height_at ns n.right < n.height

tree_opens : {T S : Type 0} (m : Sums T S) (ns : List (Node T S)) (t : Tree T) (n : Node T S) → StandsIn m ns t → node_at ns (place_of t) ≡ Some n → Opened m ns (place_of t) n (entries_of t)
tree_opens m ns Leaf n s e = absurd (cc)
tree_opens m ns (Fork k l x r) n s e =
    let same : s.0.0 ≡ n = cc in
    let told : Tells m n l x r = subst (λ o. Tells m o l x r) same s.0.2 in
    let hl : height_at ns n.left ≡ height_of l = ap (height_at ns) told.its_left ∙ tree_height m ns l s.1.0 in
    let hr : height_at ns n.right ≡ height_of r = ap (height_at ns) told.its_right ∙ tree_height m ns r s.1.1 in
    record {
      low = entries_of l;
      high = entries_of r;
      left_tree = record { tree = l; stands = s.1.0; its_place = told.its_left; its_entries = refl };
      right_tree = record { tree = r; stands = s.1.1; its_place = told.its_right; its_entries = refl };
      whole = ap (λ y. entries_of l ++ (k, y) ∷ entries_of r) (sym told.its_item);
      left_lower = (let h : n.height ≡ max (height_of l) (height_of r) + 1 = told.its_height in omega arith);
      right_lower = (let h : n.height ≡ max (height_of l) (height_of r) + 1 = told.its_height in omega arith);
    }

pub opens : {T S : Type 0} {m : Sums T S} {ns : List (Node T S)} {k : ℕ} {es : List (Entry T)} (n : Node T S) → IsTree m ns k es → node_at ns k ≡ Some n → Opened m ns k n es
opens {m = m} {ns = ns} {k = k} {es = es} n t e =
    subst (λ l. Opened m ns k n l) t.its_entries
    (subst (λ j. Opened m ns j n (entries_of t.tree)) (sym t.its_place)
    (tree_opens m ns t.tree n t.stands (ap (node_at ns) (sym t.its_place) ∙ e)))

tree_is_empty : {T S : Type 0} (m : Sums T S) (ns : List (Node T S)) (t : Tree T) → StandsIn m ns t → node_at ns (place_of t) ≡ None → entries_of t ≡ []
tree_is_empty m ns Leaf s e = refl
tree_is_empty m ns (Fork k l x r) s e = let h : node_at ns k ≡ Some s.0.0 = s.0.1 in absurd (cc)

pub is_empty : {T S : Type 0} {m : Sums T S} {ns : List (Node T S)} {k : ℕ} {es : List (Entry T)} → IsTree m ns k es → node_at ns k ≡ None → es ≡ []
is_empty {m = m} {ns = ns} t e = sym t.its_entries ∙ tree_is_empty m ns t.tree t.stands (ap (node_at ns) (sym t.its_place) ∙ e)
