use Rattle.cta_laws.proofs.LengthLaw as law
use Rattle.cta_laws.proofs.lengths.moments_never_fall.Goals as goal

pub returns : goal.returns
returns c = law.moments_never_fall
