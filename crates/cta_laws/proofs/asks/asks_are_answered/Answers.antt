use Rattle.cta_laws.proofs.Accepted as law
use Rattle.cta_laws.proofs.asks.asks_are_answered.Goals as goal

pub returns : goal.returns
returns c = law.asks_are_answered
