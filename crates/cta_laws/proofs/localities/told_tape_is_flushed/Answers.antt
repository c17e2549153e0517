use Rattle.cta_laws.proofs.FlushedLaw as law
use Rattle.cta_laws.proofs.localities.told_tape_is_flushed.Goals as goal

pub returns : goal.returns
returns c = law.told_tape_is_flushed
