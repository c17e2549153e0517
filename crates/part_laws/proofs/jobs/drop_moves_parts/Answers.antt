use Rattle.part_laws.proofs.Waits as law
use Rattle.part_laws.proofs.jobs.drop_moves_parts.Goals as goal

pub returns : goal.returns
returns c = law.parts_drop_by
