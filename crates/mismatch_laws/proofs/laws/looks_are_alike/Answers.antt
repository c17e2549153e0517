use Rattle.mismatch_laws.proofs.Stays as laws
use Rattle.mismatch_laws.proofs.laws.looks_are_alike.Goals as goal

pub returns : goal.returns
returns c = laws.looks_are_alike
