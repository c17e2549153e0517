use Rattle.cta_laws.proofs.LengthLaw as law
use Rattle.cta_laws.proofs.lengths.stays_short.Goals as goal

pub returns : goal.returns
returns c = law.stays_short
