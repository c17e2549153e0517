-- Trees that stand in nodes.
use Rattle.std.specs.Prelude.{ℕ, ◌≡◌, ◌<◌, ◌+◌, ◌^◌, List, [], ◌∷◌, ◌++◌, Some, true, max, length, is_some}
use Rattle.sum_trees.specs.Sums.{Sums, sum_of}
use Rattle.sum_trees.specs.Nodes.{Entry, node_at, items_of, AreApart, AreSame}
use Rattle.sum_trees.specs.declared.nodes.Node.{Node}

-- a tree of items with the places of their nodes
pub data Tree (T : Type 0) : Type 0 where
  Leaf : Tree T
  Fork : ℕ → Tree T → T → Tree T → Tree T

-- the place of a tree
abbrev pub place_of : {T : Type 0} → Tree T → ℕ
place_of Leaf = 4294967295
place_of (Fork k l x r) = k

-- the items of a tree in their order, with their places
abbrev pub entries_of : {T : Type 0} → Tree T → List (Entry T)
entries_of Leaf = []
entries_of (Fork k l x r) = entries_of l ++ (k, x) ∷ entries_of r

-- the height of a tree
abbrev pub height_of : {T : Type 0} → Tree T → ℕ
height_of Leaf = 0
height_of (Fork k l x r) = max (height_of l) (height_of r) + 1

-- a node tells the fork of these trees round this item
pub record Tells {T S : Type 0} (m : Sums T S) (n : Node T S) (l : Tree T) (x : T) (r : Tree T) : Type 0 where
  pub its_item : n.item ≡ x
  pub its_left : n.left ≡ place_of l
  pub its_right : n.right ≡ place_of r
  pub its_height : n.height ≡ max (height_of l) (height_of r) + 1
  pub its_sum : Some n.sum ≡ sum_of m (items_of (entries_of l) ++ x ∷ items_of (entries_of r))

-- each fork of the tree is told by the node at its place
abbrev pub StandsIn : {T S : Type 0} → Sums T S → List (Node T S) → Tree T → Type 0
StandsIn m ns Leaf = Unit {0}
StandsIn m ns (Fork k l x r) = ((n : Node _ _) × (node_at ns k ≡ Some n) × Tells m n l x r) × (StandsIn m ns l × StandsIn m ns r)

-- a tree of these items stands at the place
pub record IsTree {T S : Type 0} (m : Sums T S) (ns : List (Node T S)) (k : ℕ) (es : List (Entry T)) : Type 0 where
  pub tree : Tree T
  pub stands : StandsIn m ns tree
  pub its_place : k ≡ place_of tree
  pub its_entries : entries_of tree ≡ es

-- a tree of these items stands at the place, its nodes apart, with fewer than 2^32 items
pub record HasTree {T S : Type 0} (m : Sums T S) (ns : List (Node T S)) (k : ℕ) (es : List (Entry T)) : Type 0 where
  pub stands : IsTree m ns k es
  pub apart : AreApart es
  pub few : length es < 2 ^ 32

-- some tree stands so at the place
abbrev pub IsRoot : {T S : Type 0} → Sums T S → List (Node T S) → ℕ → Type 0
IsRoot {T = T} m ns k = (es : List (Entry T)) × HasTree m ns k es

-- an item with a place for its node and two trees, all apart, that can be one tree
pub record HasParts {T S : Type 0} (m : Sums T S) (ns : List (Node T S)) (k : ℕ) (x : T) (left right : ℕ) (low high : List (Entry T)) : Type 0 where
  pub is_place : is_some (node_at ns k) ≡ true
  pub left_tree : IsTree m ns left low
  pub right_tree : IsTree m ns right high
  pub apart : AreApart (low ++ (k, x) ∷ high)
  pub few : length (low ++ (k, x) ∷ high) < 2 ^ 32

-- the item and the two trees can be one tree
abbrev pub CanFork : {T S : Type 0} → Sums T S → List (Node T S) → ℕ → T → ℕ → ℕ → Type 0
CanFork {T = T} m ns k x left right = (low : List (Entry T)) × (high : List (Entry T)) × HasParts m ns k x left right low high

-- the tree of these items stands at the place now, and no node of another item has changed
pub record Becomes {T S : Type 0} (m : Sums T S) (old new : List (Node T S)) (k : ℕ) (es : List (Entry T)) : Type 0 where
  pub stands : IsTree m new k es
  pub same : AreSame es old new

-- the item and the two trees are one tree now
abbrev pub Forks : {T S : Type 0} → Sums T S → List (Node T S) → List (Node T S) → ℕ → T → ℕ → ℕ → ℕ → Type 0
Forks {T = T} m old new k x left right root =
    (low high : List (Entry T)) → HasParts m old k x left right low high → Becomes m old new root (low ++ (k, x) ∷ high)

-- the item of the node at the place and the two trees can be one tree
abbrev pub CanSettle : {T S : Type 0} → Sums T S → List (Node T S) → ℕ → ℕ → ℕ → Type 0
CanSettle {T = T} {S = S} m ns k left right = (n : Node T S) × (node_at ns k ≡ Some n) × CanFork m ns k n.item left right

-- they are one tree now
abbrev pub Settles : {T S : Type 0} → Sums T S → List (Node T S) → List (Node T S) → ℕ → ℕ → ℕ → ℕ → Type 0
Settles {T = T} {S = S} m old new k left right root = (n : Node T S) → node_at old k ≡ Some n → Forks m old new k n.item left right root

-- the tree has its items, wherever its root is now
abbrev pub IsMoved : {T S : Type 0} → Sums T S → List (Node T S) → List (Node T S) → ℕ → ℕ → Type 0
IsMoved {T = T} m old new k root = (es : List (Entry T)) → HasTree m old k es → Becomes m old new root es
