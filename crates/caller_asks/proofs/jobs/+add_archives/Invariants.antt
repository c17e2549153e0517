use Rattle.caller_asks.proofs.jobs.+add_archives.Given as goal

abbrev pub decreases-add_archives : goal.decreases-add_archives
decreases-add_archives l = l.copies
