use Rattle.part_laws.proofs.RepackLists as law
use Rattle.part_laws.proofs.jobs.tape_state_moves_parts.Goals as goal

pub returns : goal.returns
returns c = law.tape_state_moves_parts
