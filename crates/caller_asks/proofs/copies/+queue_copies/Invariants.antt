use Rattle.caller_asks.proofs.copies.+queue_copies.Given as goal

abbrev pub decreases-queue_copies : goal.decreases-queue_copies
decreases-queue_copies l = l.copies
