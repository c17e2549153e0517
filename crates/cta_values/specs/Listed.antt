-- A list with the room that is left for more.
use Rattle.std.specs.Prelude.{ℕ, List}

-- the items, and how many more go in without taking memory
pub record Listed (T : Type 0) : Type 0 where
  pub items : List T
  pub room : ℕ

-- a list as such, with no room to spare
abbrev pub rows : {T : Type 0} → List T → Listed T
rows xs = record { items = xs; room = 0 }
