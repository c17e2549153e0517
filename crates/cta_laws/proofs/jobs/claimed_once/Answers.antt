use Rattle.cta_laws.proofs.ClaimLaw as law
use Rattle.cta_laws.proofs.jobs.claimed_once.Goals as goal

pub returns : goal.returns
returns c = law.claimed_once
