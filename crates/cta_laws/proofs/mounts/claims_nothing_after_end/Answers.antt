use Rattle.cta_laws.proofs.ClosedLaw as law
use Rattle.cta_laws.proofs.mounts.claims_nothing_after_end.Goals as goal

pub returns : goal.returns
returns c = law.claims_nothing_after_end
