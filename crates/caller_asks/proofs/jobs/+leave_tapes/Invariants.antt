use Rattle.caller_asks.proofs.jobs.+leave_tapes.Given as goal

abbrev pub decreases-leave_tapes : goal.decreases-leave_tapes
decreases-leave_tapes l = l.copies
