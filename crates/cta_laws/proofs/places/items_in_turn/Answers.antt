use Rattle.cta_laws.proofs.TapeItems as law
use Rattle.cta_laws.proofs.places.items_in_turn.Goals as goal

pub returns : goal.returns
returns c = law.items_in_turn
