use Rattle.replay.proofs.KeptPromises.{promises_kept}
use Rattle.replay.proofs.laws.runs_keep_promises.Goals as goal

pub returns : goal.returns
returns c = promises_kept c.histories_stay_legal.ensures c.callers_ask.ensures c.true_medium_stays.ensures c.is_queued_or_claimed.ensures c.claimer_moves.ensures c.claims_nothing_after_end.ensures c.live_reads_are_done.ensures
