use Rattle.cta_laws.proofs.BatchLaw as law
use Rattle.cta_laws.proofs.lengths.flushes_are_short.Goals as goal

pub returns : goal.returns
returns c = law.flushes_are_short
