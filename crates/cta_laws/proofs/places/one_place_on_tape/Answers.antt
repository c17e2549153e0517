use Rattle.cta_laws.proofs.OnePlaceLaw as law
use Rattle.cta_laws.proofs.places.one_place_on_tape.Goals as goal

pub returns : goal.returns
returns c = law.one_place_on_tape c.numbers_are_known.ensures.classes c.numbers_are_known.ensures.pools c.routes_go_apart.ensures
