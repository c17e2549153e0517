use Rattle.cta_laws.proofs.MediaLaw as law
use Rattle.cta_laws.proofs.media.mounted_stays_true.Goals as goal

pub returns : goal.returns
returns c = law.mounted_stays_true
