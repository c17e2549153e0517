use Rattle.part_laws.proofs.PartSteps as law
use Rattle.part_laws.proofs.jobs.delete_moves_parts.Goals as goal

pub returns : goal.returns
returns c = law.parts_delete
