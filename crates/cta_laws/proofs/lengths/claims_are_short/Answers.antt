use Rattle.cta_laws.proofs.BatchLaw as law
use Rattle.cta_laws.proofs.lengths.claims_are_short.Goals as goal

pub returns : goal.returns
returns c = law.claims_are_short
