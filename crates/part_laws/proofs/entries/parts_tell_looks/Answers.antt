use Rattle.part_laws.proofs.LookTold as law
use Rattle.part_laws.proofs.entries.parts_tell_looks.Goals as goal

pub returns : goal.returns
returns c = law.parts_tell_looks
