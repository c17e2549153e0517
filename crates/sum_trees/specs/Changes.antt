-- What the changes of a tree in nodes leave.
use Rattle.std.specs.Prelude.{ℕ, ◌≡◌, ◌+◌, ◌<◌, ◌^◌, List, [], ◌∷◌, ◌++◌, Option, Some, None, Bool, true, false, length, is_some}
use Rattle.sum_trees.specs.Sums.{Sums}
use Rattle.sum_trees.specs.Nodes.{Entry, node_at, items_of, AreApart, AreSame}
use Rattle.sum_trees.specs.Order.{IsSorted, placed, is_like, has_like, replaced_in}
use Rattle.sum_trees.specs.Trees.{IsTree, HasTree, Becomes}
use Rattle.sum_trees.specs.declared.nodes.Node.{Node}
use Rattle.sum_trees.specs.declared.change.Cut.{Cut}

-- an item with a place for its node can enter a tree of items in order
pub record HasSpace {T S : Type 0} (m : Sums T S) (b : T → T → Bool) (ns : List (Node T S)) (root k : ℕ) (x : T) (es : List (Entry T)) : Type 0 where
  pub stands : IsTree m ns root es
  pub is_place : is_some (node_at ns k) ≡ true
  pub apart : AreApart ((k, x) ∷ es)
  pub few : length es + 1 < 2 ^ 32
  pub sorted : IsSorted b (items_of es)

-- the item can enter the tree that stands at the place
abbrev pub CanEnter : {T S : Type 0} → Sums T S → (T → T → Bool) → List (Node T S) → ℕ → ℕ → T → Type 0
CanEnter {T = T} m b ns root k x = (es : List (Entry T)) × HasSpace m b ns root k x es

-- the item is at its place in the tree
abbrev pub Entered : {T S : Type 0} → Sums T S → (T → T → Bool) → List (Node T S) → List (Node T S) → ℕ → ℕ → T → ℕ → Type 0
Entered {T = T} m b old new root k x now = (es : List (Entry T)) → HasSpace m b old root k x es → Becomes m old new now (placed b (k, x) es)

-- two trees stand at the places, all apart
pub record HasBoth {T S : Type 0} (m : Sums T S) (ns : List (Node T S)) (left right : ℕ) (low high : List (Entry T)) : Type 0 where
  pub left_tree : IsTree m ns left low
  pub right_tree : IsTree m ns right high
  pub apart : AreApart (low ++ high)
  pub few : length (low ++ high) < 2 ^ 32

-- two trees can be one
abbrev pub CanJoin : {T S : Type 0} → Sums T S → List (Node T S) → ℕ → ℕ → Type 0
CanJoin {T = T} m ns left right = (low : List (Entry T)) × (high : List (Entry T)) × HasBoth m ns left right low high

-- two trees are one now
abbrev pub Joined : {T S : Type 0} → Sums T S → List (Node T S) → List (Node T S) → ℕ → ℕ → ℕ → Type 0
Joined {T = T} m old new left right root = (low high : List (Entry T)) → HasBoth m old left right low high → Becomes m old new root (low ++ high)

-- an entry was cut out between these, its node still has its item, and the others are a tree
pub record IsCut {T S : Type 0} (m : Sums T S) (old new : List (Node T S)) (cut : Cut) (y : T) (low high es : List (Entry T)) : Type 0 where
  pub was : es ≡ low ++ (cut.place, y) ∷ high
  pub stands : IsTree m new cut.rest (low ++ high)
  pub same : AreSame es old new
  pub kept : (n : Node T S) × (node_at new cut.place ≡ Some n) × (n.item ≡ y)

-- the first entry was cut out, or there was none
abbrev pub CutFirst : {T S : Type 0} → Sums T S → List (Node T S) → List (Node T S) → ℕ → Option Cut → Type 0
CutFirst {T = T} m old new root None = (new ≡ old) × ((es : List (Entry T)) → IsTree m old root es → es ≡ [])
CutFirst {T = T} m old new root (Some cut) = (es : List (Entry T)) → HasTree m old root es → (y : T) × (high : List (Entry T)) × IsCut m old new cut y [] high es

-- the entry whose item is like this one was cut out, or there was none
abbrev pub CutLike : {T S : Type 0} → Sums T S → (T → T → Bool) → T → List (Node T S) → List (Node T S) → ℕ → Option Cut → Type 0
CutLike {T = T} m b x old new root None = (new ≡ old) × ((es : List (Entry T)) → IsTree m old root es → IsSorted b (items_of es) → has_like b x (items_of es) ≡ false)
CutLike {T = T} m b x old new root (Some cut) =
    (es : List (Entry T)) → HasTree m old root es → (y : T) × (low : List (Entry T)) × (high : List (Entry T)) × IsCut m old new cut y low high es × (is_like b x y ≡ true)

-- a tree of items in order stands at the place
abbrev pub StandsInOrder : {T S : Type 0} → Sums T S → (T → T → Bool) → List (Node T S) → ℕ → Type 0
StandsInOrder {T = T} m b ns root = (es : List (Entry T)) × HasTree m ns root es × IsSorted b (items_of es)

-- the item is in the place of its like now, in the tree of items in order, at its old root
abbrev pub TakesPlace : {T S : Type 0} → Sums T S → (T → T → Bool) → T → List (Node T S) → List (Node T S) → ℕ → Type 0
TakesPlace {T = T} m b x old new root = (es : List (Entry T)) → HasTree m old root es → IsSorted b (items_of es) → Becomes m old new root (replaced_in b x es)
