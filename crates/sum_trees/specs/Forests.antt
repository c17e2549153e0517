-- What contracts see of a forest.
use Rattle.std.specs.Prelude.{ℕ, ◌≡◌, ◌<◌, List, [], length}
use Rattle.std.specs.List.{slice_index_or}

-- the items of each tree, in their order, and for how many more there is room
pub record Grown (T : Type 0) : Type 0 where
  pub trees : List (List T)
  pub room : ℕ

-- the items of a tree, none beyond the last
abbrev pub items_in : {T : Type 0} → List (List T) → ℕ → List T
items_in trees k = slice_index_or trees k []

-- so many trees, all empty
pub record AreEmpty {T : Type 0} (n : ℕ) (trees : List (List T)) : Type 0 where
  pub many : length trees ≡ n
  pub empty : (k : ℕ) → items_in trees k ≡ []

-- so many places, each that of the empty tree
pub record AreNowhere (n : ℕ) (roots : List ℕ) : Type 0 where
  pub many : length roots ≡ n
  pub nowhere : (k : ℕ) → k < length roots → slice_index_or roots k 0 ≡ 4294967295
