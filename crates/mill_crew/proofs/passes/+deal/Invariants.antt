use Rattle.std.proofs.Common.{ℕ}
use Rattle.mill_crew.proofs.passes.+deal.Given as goal

abbrev pub decreases-deal : goal.decreases-deal
decreases-deal g l = l.pass.seats
