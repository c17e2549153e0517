use Rattle.cta_laws.proofs.PlaceLaw as law
use Rattle.cta_laws.proofs.places.places_stay.Goals as goal

pub returns : goal.returns
returns c = law.places_stay
