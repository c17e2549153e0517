-- How a weight is counted.
use Rattle.std.specs.Prelude.{ℕ, min}

-- a count as 64 bits hold it: the greatest number stands for all above it
abbrev pub capped : ℕ → ℕ
capped n = min n 18446744073709551615
