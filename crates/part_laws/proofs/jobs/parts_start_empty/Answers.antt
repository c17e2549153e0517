use Rattle.part_laws.proofs.StaleParts as law
use Rattle.part_laws.proofs.jobs.parts_start_empty.Goals as goal

pub returns : goal.returns
returns c = law.parts_start
