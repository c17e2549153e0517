use Rattle.caller_asks.proofs.copies.+bear_copies.Given as goal

abbrev pub decreases-bear_copies : goal.decreases-bear_copies
decreases-bear_copies l = l.copies
