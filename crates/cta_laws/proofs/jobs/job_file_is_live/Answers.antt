use Rattle.cta_laws.proofs.JobFiles as law
use Rattle.cta_laws.proofs.jobs.job_file_is_live.Goals as goal

pub returns : goal.returns
returns c = law.job_file_live
