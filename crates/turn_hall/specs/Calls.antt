-- The calls of a pass.
use Rattle.std.specs.Prelude.{ℕ, ◌+◌, ◌≤◌, ◌==◌, Bool, List, [], ◌∷◌, ◌++◌, Option, Some, None, nat_lt, cond, ◌&&◌}
use mathlib.Core.HLevel.{×_prop, Unit-prop}
use native.Mathlib.Bridge.{le_prop}
use Rattle.turn_hall.specs.declared.view.Made.{Made}
use Rattle.turn_hall.specs.declared.view.Last.{Last}

module _ {C B : Type 0} where
  -- the call, played in the turn n on a history of this length
  abbrev pub made_in : ℕ → ℕ → C → B → Made C B
  made_in n at call back = record { turn = n; at = at; call = call; back = back }

  abbrev pub mine_after : List (Made C B) → ℕ → ℕ → Option (Last C B) → List (Made C B)
  mine_after mine n at None = mine
  mine_after mine n at (Some l) = mine ++ made_in n at l.call.value l.back.value ∷ []

  -- the call in its place by turn
  abbrev pub insert : Made C B → List (Made C B) → List (Made C B)
  insert m [] = m ∷ []
  insert m (x ∷ xs) = cond (nat_lt m.turn x.turn) (m ∷ x ∷ xs) (x ∷ insert m xs)

  -- the calls of both, in order of turn
  abbrev pub merged : List (Made C B) → List (Made C B) → List (Made C B)
  merged [] ys = ys
  merged (x ∷ xs) ys = insert x (merged xs ys)

  abbrev pub is_turn : ℕ → Made C B → Bool
  is_turn n m = m.turn == n

  -- the call added the entry at p
  abbrev pub is_entry : (C → B → Bool) → ℕ → Made C B → Bool
  is_entry adds p m = adds m.call m.back && (m.at == p)

  -- the turn numbers rise, and the first is n or more
  abbrev pub RisesFrom : ℕ → List (Made C B) → Type 0
  RisesFrom n [] = Unit {0}
  RisesFrom n (x ∷ xs) = (n ≤ x.turn) × RisesFrom (x.turn + 1) xs

  -- this has one proof at most, so a pass may carry it
  pub RisesFrom-prop : (n : ℕ) (xs : List (Made C B)) → IsProp (RisesFrom n xs)
  RisesFrom-prop n [] = Unit-prop
  RisesFrom-prop n (x ∷ xs) = ×_prop le_prop (RisesFrom-prop (x.turn + 1) xs)
