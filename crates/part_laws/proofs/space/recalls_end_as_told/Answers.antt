use Rattle.part_laws.proofs.Ended as law
use Rattle.part_laws.proofs.space.recalls_end_as_told.Goals as goal

pub returns : goal.returns
returns c = law.recalls_end_as_told
