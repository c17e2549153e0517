use Rattle.cta_model.proofs.Runs.{legal_after}
use Rattle.cta_model.proofs.laws.histories_stay_legal.Goals as goal

pub returns : goal.returns
returns c = legal_after
