use Rattle.cta_laws.proofs.LengthLaw as law
use Rattle.cta_laws.proofs.lengths.fseqs_are_low.Goals as goal

pub returns : goal.returns
returns c = law.fseqs_are_low
