use Rattle.cta_laws.proofs.PutLaw as law
use Rattle.cta_laws.proofs.jobs.job_file_has_put.Goals as goal

pub returns : goal.returns
returns c = law.job_file_has_put
