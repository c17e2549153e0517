use Rattle.part_laws.proofs.Together as law
use Rattle.part_laws.proofs.space.first_parts_stand.Goals as goal

pub returns : goal.returns
returns c = law.first_parts_stand
