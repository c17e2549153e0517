use Rattle.cta_laws.proofs.RepackLaw as law
use Rattle.cta_laws.proofs.repacks.writing_has_job.Goals as goal

pub returns : goal.returns
returns c = law.writing_has_job
