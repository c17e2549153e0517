use Rattle.part_laws.proofs.RepackCalls as law
use Rattle.part_laws.proofs.space.repacks_tell_live.Goals as goal

pub returns : goal.returns
returns c = law.repacks_tell_live
