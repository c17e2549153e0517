use Rattle.cta_laws.proofs.MediaLaw as law
use Rattle.cta_laws.proofs.media.flushed_is_true.Goals as goal

pub returns : goal.returns
returns c = law.flushed_is_true
