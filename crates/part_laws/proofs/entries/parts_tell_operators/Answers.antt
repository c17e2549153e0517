use Rattle.part_laws.proofs.OperatorTold as law
use Rattle.part_laws.proofs.entries.parts_tell_operators.Goals as goal

pub returns : goal.returns
returns c = law.parts_tell_operators
