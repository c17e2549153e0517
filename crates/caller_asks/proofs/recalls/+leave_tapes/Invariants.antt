use Rattle.caller_asks.proofs.recalls.+leave_tapes.Given as goal

abbrev pub decreases-leave_tapes : goal.decreases-leave_tapes
decreases-leave_tapes l = l.copies
