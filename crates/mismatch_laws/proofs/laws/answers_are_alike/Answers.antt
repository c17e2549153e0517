use Rattle.mismatch_laws.proofs.Stays as laws
use Rattle.mismatch_laws.proofs.laws.answers_are_alike.Goals as goal

pub returns : goal.returns
returns c = laws.answers_are_alike
