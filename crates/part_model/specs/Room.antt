-- What contracts see of a part that makes room ahead.
use Rattle.std.specs.Prelude.{ℕ}

-- a part's value, and for how many additions it has room, so that they take no memory
pub record Roomed (Value : Type 0) : Type 0 where
  pub value : Value
  pub room : ℕ
