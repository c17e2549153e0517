use Rattle.cta_laws.proofs.EndLaw as law
use Rattle.cta_laws.proofs.recalls.stale_after_end.Goals as goal

pub returns : goal.returns
returns c = law.stale_after_end
