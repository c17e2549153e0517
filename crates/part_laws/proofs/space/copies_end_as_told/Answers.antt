use Rattle.part_laws.proofs.Ended as law
use Rattle.part_laws.proofs.space.copies_end_as_told.Goals as goal

pub returns : goal.returns
returns c = law.copies_end_as_told
