use Rattle.cta_laws.proofs.Held as held
use Rattle.cta_laws.proofs.histories.legal_histories_hold.Goals as goal

pub returns : goal.returns
returns c = held.legal_histories_hold
