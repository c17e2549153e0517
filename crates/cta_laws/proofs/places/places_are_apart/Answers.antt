use Rattle.cta_laws.proofs.TapeItems as law
use Rattle.cta_laws.proofs.places.places_are_apart.Goals as goal

pub returns : goal.returns
returns c = law.places_are_apart
