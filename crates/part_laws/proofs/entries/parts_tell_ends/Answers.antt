use Rattle.part_laws.proofs.EndTold as law
use Rattle.part_laws.proofs.entries.parts_tell_ends.Goals as goal

pub returns : goal.returns
returns c = law.parts_tell_ends
