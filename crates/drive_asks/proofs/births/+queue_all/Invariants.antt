use Rattle.std.proofs.Common.{length}
use Rattle.drive_asks.proofs.births.+queue_all.Given as goal

abbrev pub decreases-queue_all : goal.decreases-queue_all
decreases-queue_all l = length l.copies.now
