use Rattle.part_laws.proofs.DownSteps as law
use Rattle.part_laws.proofs.jobs.mounts_start_empty.Goals as goal

pub returns : goal.returns
returns c = law.mounts_start_empty
