use Rattle.cta_laws.proofs.JobFiles as law
use Rattle.cta_laws.proofs.jobs.archive_is_resident.Goals as goal

pub returns : goal.returns
returns c = law.archive_resident
