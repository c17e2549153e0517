use Rattle.drive_asks.proofs.repacks.+mark_repack.Given as goal

abbrev pub decreases-mark_repack : goal.decreases-mark_repack
decreases-mark_repack l = l.copies
