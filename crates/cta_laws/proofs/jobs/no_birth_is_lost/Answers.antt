use Rattle.cta_laws.proofs.RepackedJobs as law
use Rattle.cta_laws.proofs.jobs.no_birth_is_lost.Goals as goal

pub returns : goal.returns
returns c = law.no_birth_is_lost
