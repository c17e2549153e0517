use Rattle.cta_laws.proofs.LostLaw as law
use Rattle.cta_laws.proofs.localities.resident_or_flushed.Goals as goal

pub returns : goal.returns
returns c = law.resident_or_flushed
