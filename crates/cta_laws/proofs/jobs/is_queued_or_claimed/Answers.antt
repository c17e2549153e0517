use Rattle.cta_laws.proofs.JobLaw as law
use Rattle.cta_laws.proofs.jobs.is_queued_or_claimed.Goals as goal

pub returns : goal.returns
returns c = law.is_queued_or_claimed
