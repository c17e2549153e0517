use Rattle.cta_laws.proofs.OnceLaw as law
use Rattle.cta_laws.proofs.recalls.completes_once.Goals as goal

pub returns : goal.returns
returns c = law.completes_once
