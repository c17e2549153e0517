use Rattle.std.proofs.Common.{length}
use Rattle.caller_asks.proofs.jobs.+end_all.Given as goal

abbrev pub decreases-end_all : goal.decreases-end_all
decreases-end_all l = length l.jobs.now
