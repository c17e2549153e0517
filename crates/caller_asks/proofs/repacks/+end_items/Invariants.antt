use Rattle.caller_asks.proofs.repacks.+end_items.Given as goal

abbrev pub decreases-end_items : goal.decreases-end_items
decreases-end_items l = l.copies
