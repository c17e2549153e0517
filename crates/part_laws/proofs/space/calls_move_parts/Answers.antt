use Rattle.part_laws.proofs.Together as law
use Rattle.part_laws.proofs.space.calls_move_parts.Goals as goal

pub returns : goal.returns
returns c = law.calls_move_parts
