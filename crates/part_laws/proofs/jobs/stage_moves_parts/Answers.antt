use Rattle.part_laws.proofs.StageParts as law
use Rattle.part_laws.proofs.jobs.stage_moves_parts.Goals as goal

pub returns : goal.returns
returns c = law.parts_stage
