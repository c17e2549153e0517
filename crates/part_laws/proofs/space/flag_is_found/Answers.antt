use Rattle.part_laws.proofs.Flags as law
use Rattle.part_laws.proofs.space.flag_is_found.Goals as goal

pub returns : goal.returns
returns c = law.flag_is_found
