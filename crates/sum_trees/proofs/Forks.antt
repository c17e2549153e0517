-- A fork of two trees.
use Rattle.std.proofs.Common.{◌≡◌, ◌∙◌, ◌+◌, ℕ, List, [], ◌∷◌, ◌++◌, Option, Some, None, Bool, true, false, refl, sym, ap, subst}
use Rattle.std.specs.Prelude.{◌==◌, max}
use Rattle.std.proofs.Math.ListN.{set}
use Rattle.std.proofs.lemmas.Bool.{eqb-true}
use Rattle.sum_trees.specs.Sums.{Sums, led, sum_of}
use Rattle.sum_trees.specs.Around.{around, behind}
use Rattle.sum_trees.specs.Nodes.{Entry, node_at, height_at, sum_at, has_place, items_of}
use Rattle.sum_trees.specs.Trees.{Fork, entries_of, height_of, StandsIn, HasParts, Becomes}
use Rattle.sum_trees.specs.declared.nodes.Node.{Node}
use Rattle.sum_trees.proofs.Places.{place_append, not_left, not_right, Cut, cut_of, node_set_same, node_set_other, node_there}
use Rattle.sum_trees.proofs.Standing.{stands_still, tree_height, tree_sum}

-- sums join in any grouping
abbrev pub Joins : {T S : Type 0} → Sums T S → Type 0
Joins {S = S} m = (a b c : S) → m.joined (m.joined a b) c ≡ m.joined a (m.joined b c)

led_joined : {T S : Type 0} (m : Sums T S) → Joins m → (a b : S) (c : Option S) → led m (m.joined a b) c ≡ m.joined a (led m b c)
led_joined m j a b None = refl
led_joined m j a b (Some c) = j a b c

pub sum_around : {T S : Type 0} (m : Sums T S) → Joins m → (xs : List T) (x : T) (ys : List T) → sum_of m (xs ++ x ∷ ys) ≡ Some (around m (sum_of m xs) x (sum_of m ys))
sum_around m j [] x ys = refl
sum_around m j (y ∷ xs) x ys =
    ap (λ s. Some (led m (m.own y) s)) (sum_around m j xs x ys) ∙ ap Some (step (sum_of m xs))
  where
    step : (s : Option _) → m.joined (m.own y) (led m (behind m s (m.own x)) (sum_of m ys)) ≡ led m (m.joined (led m (m.own y) s) (m.own x)) (sum_of m ys)
    step None = sym (led_joined m j (m.own y) (m.own x) (sum_of m ys))
    step (Some s) = sym (led_joined m j (m.own y) (m.joined s (m.own x)) (sum_of m ys)) ∙ ap (λ t. led m t (sum_of m ys)) (sym (j (m.own y) s (m.own x)))

-- a node that is written as the fork of two trees
pub forked : {T S : Type 0} (m : Sums T S) → Joins m → (ns new : List (Node T S)) (k : ℕ) (x : T) (left right : ℕ) (height : ℕ) (sum : S)
    → new ≡ set ns k (record { item = x; sum = sum; left = left; right = right; height = height })
    → height ≡ max (height_at ns left) (height_at ns right) + 1 → sum ≡ around m (sum_at ns left) x (sum_at ns right)
    → (low high : List (Entry T)) → HasParts m ns k x left right low high → Becomes m ns new k (low ++ (k, x) ∷ high)
forked {T = T} {S = S} m j ns new k x left right height sum is eh es low high p =
    let n : Node T S = record { item = x; sum = sum; left = left; right = right; height = height } in
    subst (λ l. Becomes m ns l k (low ++ (k, x) ∷ high)) (sym is)
    (
    let c : Cut low (k, x) high = cut_of low (k, x) high p.apart in
    let was : (o : Node _ _) × (node_at ns k ≡ Some o) = node_there ns k p.is_place in
    let same : (i : ℕ) → (k == i) ≡ false → node_at (set ns k n) i ≡ node_at ns i = λ i h. node_set_other ns k i n h in
    let lt = p.left_tree in
    let rt = p.right_tree in
    let ls : StandsIn m (set ns k n) lt.tree = stands_still _ p.left_tree (λ i h. same i (not_left _ _ (c.low_not i h))) in
    let rs : StandsIn m (set ns k n) rt.tree = stands_still _ p.right_tree (λ i h. same i (apart_ne low (k, x) high c i h)) in
    let hl : height_at ns left ≡ height_of lt.tree = ap (height_at ns) lt.its_place ∙ tree_height m ns lt.tree p.left_tree.stands in
    let hr : height_at ns right ≡ height_of rt.tree = ap (height_at ns) rt.its_place ∙ tree_height m ns rt.tree p.right_tree.stands in
    let sl : sum_at ns left ≡ sum_of m (items_of (entries_of lt.tree)) = ap (sum_at ns) lt.its_place ∙ tree_sum m ns lt.tree p.left_tree.stands in
    let sr : sum_at ns right ≡ sum_of m (items_of (entries_of rt.tree)) = ap (sum_at ns) rt.its_place ∙ tree_sum m ns rt.tree p.right_tree.stands in
    record {
      stands = record {
        tree = Fork k lt.tree x rt.tree;
        stands = (
          (
            n,
            node_set_same ns k was.0 n was.1,
            record {
              its_item = refl;
              its_left = lt.its_place;
              its_right = rt.its_place;
              its_height = eh ∙ (λ i. max (hl i) (hr i) + 1);
              its_sum = ap Some es ∙ (λ i. Some (around m (sl i) x (sr i))) ∙ sym (sum_around m j (items_of (entries_of lt.tree)) x (items_of (entries_of rt.tree)));
            },
          ),
          (ls, rs),
        );
        its_place = refl;
        its_entries = (λ i. lt.its_entries i ++ (k, x) ∷ rt.its_entries i);
      };
      same = λ i h. same i (not_left _ _ (not_right _ _ (sym (place_append i low ((k, x) ∷ high)) ∙ h)));
    })
  where
    clash : {b : Bool} → b ≡ false → b ≡ true → ⊥
    clash e f = cc

    apart_ne : {T : Type 0} (low : List (Entry T)) (e : Entry T) (high : List (Entry T)) → Cut low e high → (i : ℕ) → has_place i high ≡ true → (e.0 == i) ≡ false
    apart_ne low e high c i h =
        elim (e.0 == i) as (λ b. (e.0 == i) ≡ b → b ≡ false)
        [ true ↦ λ is. absurd (clash (subst (λ (q : ℕ). has_place q high ≡ false) (eqb-true e.0 i is) c.not_high) h) | false ↦ λ is. refl ] refl
