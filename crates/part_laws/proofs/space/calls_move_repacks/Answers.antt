use Rattle.part_laws.proofs.RepackCalls as law
use Rattle.part_laws.proofs.space.calls_move_repacks.Goals as goal

pub returns : goal.returns
returns c = law.calls_move_repacks
