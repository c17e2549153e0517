use Rattle.std.proofs.Common.{ℕ}
use Rattle.server_crew.proofs.muster.+deal.Given as goal

abbrev pub decreases-deal : goal.decreases-deal
decreases-deal g l = l.pass.seats
