-- The sum of an item between two trees.
use Rattle.std.specs.Prelude.{Option, Some, None}
use Rattle.sum_trees.specs.Sums.{Sums, led}

-- a sum, and what comes before it
abbrev pub behind : {T S : Type 0} → Sums T S → Option S → S → S
behind m None s = s
behind m (Some t) s = m.joined t s

-- the sum of an item between the sums of two trees
abbrev pub around : {T S : Type 0} → Sums T S → Option S → T → Option S → S
around m left x right = led m (behind m left (m.own x)) right
