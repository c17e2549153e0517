use Rattle.part_laws.proofs.BatchTold as law
use Rattle.part_laws.proofs.entries.parts_tell_mounts.Goals as goal

pub returns : goal.returns
returns c = law.parts_tell_mounts
