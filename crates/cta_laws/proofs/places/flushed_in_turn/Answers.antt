use Rattle.cta_laws.proofs.TapeItems as law
use Rattle.cta_laws.proofs.places.flushed_in_turn.Goals as goal

pub returns : goal.returns
returns c = law.flushed_in_turn
