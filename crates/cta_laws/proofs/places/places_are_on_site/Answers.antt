use Rattle.cta_laws.proofs.FlushedCopies as law
use Rattle.cta_laws.proofs.places.places_are_on_site.Goals as goal

pub returns : goal.returns
returns c = law.places_are_on_site
