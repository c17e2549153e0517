use Rattle.cta_laws.proofs.BatchOrder as law
use Rattle.cta_laws.proofs.places.batches_are_rising.Goals as goal

pub returns : goal.returns
returns c = law.batches_are_rising
