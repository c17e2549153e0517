use Rattle.cta_laws.proofs.ClaimedOnce as law
use Rattle.cta_laws.proofs.jobs.claims_no_job_twice.Goals as goal

pub returns : goal.returns
returns c = law.claims_once
