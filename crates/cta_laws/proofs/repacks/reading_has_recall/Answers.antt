use Rattle.cta_laws.proofs.RepackLaw as law
use Rattle.cta_laws.proofs.repacks.reading_has_recall.Goals as goal

pub returns : goal.returns
returns c = law.reading_has_recall
