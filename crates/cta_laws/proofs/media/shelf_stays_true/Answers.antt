use Rattle.cta_laws.proofs.MediaLaw as law
use Rattle.cta_laws.proofs.media.shelf_stays_true.Goals as goal

pub returns : goal.returns
returns c = law.shelf_stays_true
