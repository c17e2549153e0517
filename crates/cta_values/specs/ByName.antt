-- Lists in the order of their items' names.
use Rattle.std.specs.Prelude.{ℕ, List}
use Rattle.std.specs.List.Sorted.{IsSorted}
use Rattle.std.specs.Ordering.{nat_cmp}
use Rattle.std.specs.Cmp.Lexicographic.{slice_cmp}

-- a list is in byte order of its items' names
abbrev pub IsByName : {A : Type 0} → (A → List ℕ) → List A → Type 0
IsByName name xs = IsSorted (λ x y. slice_cmp nat_cmp (name x) (name y)) xs
