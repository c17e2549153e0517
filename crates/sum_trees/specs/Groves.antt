-- Several trees in the same nodes, and the nodes that no tree uses.
use Rattle.std.specs.Prelude.{ℕ, ◌≡◌, ◌+◌, ◌<◌, ◌≤◌, ◌==◌, List, [], ◌∷◌, Bool, true, false, length, is_some, map}
use Rattle.std.specs.List.{slice_index_or, slice_set as set}
use Rattle.sum_trees.specs.Sums.{Sums}
use Rattle.sum_trees.specs.Nodes.{Entry, node_at, items_of, has_place, AreApart}
use Rattle.sum_trees.specs.Order.{IsSorted}
use Rattle.sum_trees.specs.Trees.{IsTree}
use Rattle.sum_trees.specs.Searches.{entries_at}
use Rattle.sum_trees.specs.declared.nodes.Node.{Node}
use Rattle.sum_trees.specs.declared.grove.Spares.{Spares}
use Rattle.sum_trees.specs.declared.grove.Found.{Found}

-- how many entries these have together
abbrev pub count_of : {T : Type 0} → List (List (Entry T)) → ℕ
count_of [] = 0
count_of (es ∷ ess) = length es + count_of ess

-- the entries of a tree of these, none beyond the last
abbrev pub entries_in : {T : Type 0} → List (List (Entry T)) → ℕ → List (Entry T)
entries_in ess i = slice_index_or ess i []

-- trees of these entries stand at the roots, no two with one node, and so many nodes are in no tree
pub record StandApart {T S : Type 0} (m : Sums T S) (ns : List (Node T S)) (rs : List ℕ) (ess : List (List (Entry T))) (over : ℕ) : Type 0 where
  pub as_many : length ess ≡ length rs
  pub trees : (i : ℕ) → i < length rs → IsTree m ns (slice_index_or rs i 0) (entries_in ess i)
  pub apart : (i : ℕ) → AreApart (entries_in ess i)
  pub two : (i j : ℕ) → (i == j) ≡ false → (p : ℕ) → has_place p (entries_in ess i) ≡ true → has_place p (entries_in ess j) ≡ false
  pub counted : count_of ess + over ≡ length ns

-- a node that is in none of these trees
pub record IsLoose {T S : Type 0} (ns : List (Node T S)) (ess : List (List (Entry T))) (p : ℕ) : Type 0 where
  pub is_place : is_some (node_at ns p) ≡ true
  pub outside : (i : ℕ) → has_place p (entries_in ess i) ≡ false

-- the items of the tree at a place
abbrev pub items_at : {T S : Type 0} → List (Node T S) → ℕ → List T
items_at ns k = items_of (entries_at ns k)

-- trees in order and one of spare nodes, which together have all nodes, at most 2^32 - 1
pub record IsGrove {T S : Type 0} (m : Sums T S) (b : T → T → Bool) (ns : List (Node T S)) (rs : List ℕ) (spares : Spares) : Type 0 where
  pub stands : StandApart m ns (spares.root ∷ rs) (map (entries_at ns) (spares.root ∷ rs)) 0
  pub sorted : (k : ℕ) → k < length rs → IsSorted b (items_at ns (slice_index_or rs k 0))
  pub counted : spares.count ≡ length (entries_at ns spares.root)
  pub short : length ns ≤ 4294967295

-- what a node was found for an item leaves
pub record FoundPlace {T S : Type 0} (m : Sums T S) (old new : List (Node T S)) (rs : List ℕ) (spare : List (Entry T)) (others : List (List (Entry T))) (found : Found) : Type 0 where
  pub rest : List (Entry T)
  pub stands : StandApart m new (found.spares.root ∷ rs) (rest ∷ others) 1
  pub loose : IsLoose new (rest ∷ others) found.place
  pub one : length spare + length new ≡ length rest + length old + 1
  pub counted : found.spares.count ≡ length rest
  pub short : length new ≤ 4294967295

-- a node was found that no other tree has
abbrev pub FindsPlace : {T S : Type 0} → Sums T S → List (Node T S) → List (Node T S) → Spares → Found → Type 0
FindsPlace {T = T} m old new spares found =
    (rs : List ℕ) (spare : List (Entry T)) (others : List (List (Entry T))) → spares.count ≡ length spare → length old ≤ 4294967295 → StandApart m old (spares.root ∷ rs) (spare ∷ others) 0 → FoundPlace m old new rs spare others found

-- a grove that is left with its trees
pub record GroveBecomes {T S : Type 0} (m : Sums T S) (b : T → T → Bool) (old new : List (Node T S)) (rs now : List ℕ) (spares : Spares) (k : ℕ) (items : List T) : Type 0 where
  pub grove : IsGrove m b new now spares
  pub trees : map (items_at new) now ≡ set (map (items_at old) rs) k items
