-- Nodes by their places.
use Rattle.std.specs.Prelude.{ℕ, ◌≡◌, ◌==◌, ◌||◌, List, [], ◌∷◌, Option, Some, None, option_map, Bool, true, false, map}
use Rattle.std.specs.List.{slice_get}
use Rattle.sum_trees.specs.declared.nodes.Node.{Node}

-- an item with the place of its node
abbrev pub Entry : Type 0 → Type 0
Entry T = ℕ × T

-- the node at a place that may be the empty one
abbrev pub node_by : {T S : Type 0} → Bool → List (Node T S) → ℕ → Option (Node T S)
node_by true ns k = None
node_by false ns k = slice_get ns k

-- the node at a place, none at the place that stands for the empty tree
abbrev pub node_at : {T S : Type 0} → List (Node T S) → ℕ → Option (Node T S)
node_at ns k = node_by (k == 4294967295) ns k

-- the height that a node tells, 0 where there is none
abbrev pub height_in : {T S : Type 0} → Option (Node T S) → ℕ
height_in None = 0
height_in (Some n) = n.height

-- the height of the tree at a place
abbrev pub height_at : {T S : Type 0} → List (Node T S) → ℕ → ℕ
height_at ns k = height_in (node_at ns k)

-- the sum of the tree at a place, none where it is empty
abbrev pub sum_at : {T S : Type 0} → List (Node T S) → ℕ → Option S
sum_at ns k = option_map (λ n. n.sum) (node_at ns k)

-- the item at a place, none at the place that stands for the empty tree
abbrev pub item_at : {T S : Type 0} → List (Node T S) → ℕ → Option T
item_at ns k = option_map (λ n. n.item) (node_at ns k)

-- whether an item of these has its node at the place
abbrev pub has_place : {T : Type 0} → ℕ → List (Entry T) → Bool
has_place k [] = false
has_place k (e ∷ es) = e.0 == k || has_place k es

-- no two of these have one node
abbrev pub AreApart : {T : Type 0} → List (Entry T) → Type 0
AreApart [] = Unit {0}
AreApart (e ∷ es) = (has_place e.0 es ≡ false) × AreApart es

-- the items, without their places
abbrev pub items_of : {T : Type 0} → List (Entry T) → List T
items_of es = map (λ e. e.1) es

-- the nodes are the same but at the places of these
abbrev pub AreSame : {T S : Type 0} → List (Entry T) → List (Node T S) → List (Node T S) → Type 0
AreSame es old new = (k : ℕ) → has_place k es ≡ false → node_at new k ≡ node_at old k
