use Rattle.cta_laws.proofs.FlushedLaw as law
use Rattle.cta_laws.proofs.localities.tape_is_flushed.Goals as goal

pub returns : goal.returns
returns c = law.tape_is_flushed
