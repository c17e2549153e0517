use Rattle.part_laws.proofs.Together as law
use Rattle.part_laws.proofs.space.parts_tell_files.Goals as goal

pub returns : goal.returns
returns c = law.parts_tell_files
