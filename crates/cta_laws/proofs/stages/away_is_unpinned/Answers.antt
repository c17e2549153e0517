use Rattle.cta_laws.proofs.PinLaw as law
use Rattle.cta_laws.proofs.stages.away_is_unpinned.Goals as goal

pub returns : goal.returns
returns c = law.away_is_unpinned
