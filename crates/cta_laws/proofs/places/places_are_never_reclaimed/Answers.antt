use Rattle.cta_laws.proofs.CopyLaw as law
use Rattle.cta_laws.proofs.places.places_are_never_reclaimed.Goals as goal

pub returns : goal.returns
returns c = law.places_are_never_reclaimed
