use Rattle.cta_laws.proofs.FseqLaw as law
use Rattle.cta_laws.proofs.places.places_below.Goals as goal

pub returns : goal.returns
returns c = law.places_below
