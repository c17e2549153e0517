use Rattle.mismatch_laws.proofs.Stays as laws
use Rattle.mismatch_laws.proofs.laws.histories_stay_alike.Goals as goal

pub returns : goal.returns
returns c = laws.histories_stay_alike
