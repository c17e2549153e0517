use Rattle.cta_laws.proofs.EndLaw as law
use Rattle.cta_laws.proofs.jobs.no_claim_after_end.Goals as goal

pub returns : goal.returns
returns c = law.no_claim_after_end
