-- What is told of a tree in nodes.
use Rattle.std.specs.Prelude.{ℕ, zero, suc, ◌≡◌, List, [], ◌∷◌, ◌++◌, Option, Some, None, Bool, not, filter}
use Rattle.sum_trees.specs.Sums.{Sums, sum_of}
use Rattle.sum_trees.specs.Nodes.{Entry, node_at, height_at, items_of}
use Rattle.sum_trees.specs.Order.{IsSorted, first_of}
use Rattle.sum_trees.specs.Trees.{IsTree}
use Rattle.sum_trees.specs.declared.nodes.Node.{Node}

-- the first item of the tree that stands at the place
abbrev pub TellsFirst : {T S : Type 0} → Sums T S → List (Node T S) → ℕ → Option T → Type 0
TellsFirst {T = T} m ns root told = (es : List (Entry T)) → IsTree m ns root es → told ≡ first_of (items_of es)

-- the first item of the tree in order that passes a test
abbrev pub TellsPassing : {T S : Type 0} → Sums T S → (T → T → Bool) → (T → Bool) → List (Node T S) → ℕ → Option T → Type 0
TellsPassing {T = T} m b p ns root told = (es : List (Entry T)) → IsTree m ns root es → IsSorted b (items_of es) → told ≡ first_of (filter p (items_of es))

-- what is there, or else another one
abbrev pub or_else : {T : Type 0} → Option T → Option T → Option T
or_else None y = y
or_else (Some x) y = Some x

-- the first item of the tree in order that passes a test, or another one where none does
abbrev pub TellsPassingOr : {T S : Type 0} → Sums T S → (T → T → Bool) → (T → Bool) → List (Node T S) → ℕ → Option T → Option T → Type 0
TellsPassingOr {T = T} m b p ns root other told = (es : List (Entry T)) → IsTree m ns root es → IsSorted b (items_of es) → told ≡ or_else (first_of (filter p (items_of es))) other

-- the first item of the tree in order that this one comes before
abbrev pub TellsAfter : {T S : Type 0} → Sums T S → (T → T → Bool) → List (Node T S) → ℕ → T → Option T → Type 0
TellsAfter m b ns root x told = TellsPassing m b (b x) ns root told

-- the first item of the tree in order that does not come before this one
abbrev pub TellsFrom : {T S : Type 0} → Sums T S → (T → T → Bool) → List (Node T S) → ℕ → T → Option T → Type 0
TellsFrom m b ns root x told = TellsPassing m b (λ y. not (b y x)) ns root told

-- the sum of the items of the tree in order that pass a test, none where there are none
abbrev pub TellsSum : {T S : Type 0} → Sums T S → (T → T → Bool) → (T → Bool) → List (Node T S) → ℕ → Option S → Type 0
TellsSum {T = T} m b p ns root told = (es : List (Entry T)) → IsTree m ns root es → IsSorted b (items_of es) → told ≡ sum_of m (filter p (items_of es))

-- the entries of a node between those of its two trees
abbrev pub spread : {T S : Type 0} → (ℕ → List (Entry T)) → ℕ → Option (Node T S) → List (Entry T)
spread below k None = []
spread below k (Some n) = below n.left ++ (k, n.item) ∷ below n.right

-- the entries of a tree at a place, read down to this height
abbrev pub read_entries : {T S : Type 0} → ℕ → List (Node T S) → ℕ → List (Entry T)
read_entries zero ns k = []
read_entries (suc h) ns k = spread (read_entries h ns) k (node_at ns k)

-- the entries of the tree at a place
abbrev pub entries_at : {T S : Type 0} → List (Node T S) → ℕ → List (Entry T)
entries_at ns k = read_entries (height_at ns k) ns k
