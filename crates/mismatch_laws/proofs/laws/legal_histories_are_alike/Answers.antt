use Rattle.mismatch_laws.proofs.Stays as laws
use Rattle.mismatch_laws.proofs.laws.legal_histories_are_alike.Goals as goal

pub returns : goal.returns
returns c = laws.legal_histories_are_alike
