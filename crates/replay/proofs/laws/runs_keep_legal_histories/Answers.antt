use Rattle.replay.proofs.Histories.{legal_histories}
use Rattle.replay.proofs.laws.runs_keep_legal_histories.Goals as goal

pub returns : goal.returns
returns c = λ site made records turns each run fit. legal_histories c.histories_stay_legal.ensures c.callers_ask.ensures site made records turns each run fit
