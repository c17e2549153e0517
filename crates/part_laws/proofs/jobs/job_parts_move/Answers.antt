use Rattle.part_laws.proofs.AllAsks as law
use Rattle.part_laws.proofs.jobs.job_parts_move.Goals as goal

pub returns : goal.returns
returns c = law.job_parts_move
