use Rattle.caller_asks.proofs.repacks.+end_writers.Given as goal

abbrev pub decreases-end_writers : goal.decreases-end_writers
decreases-end_writers l = l.copies
