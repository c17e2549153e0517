use Rattle.cta_laws.proofs.MediaLaw as law
use Rattle.cta_laws.proofs.media.true_medium_stays.Goals as goal

pub returns : goal.returns
returns c = law.true_medium_stays
