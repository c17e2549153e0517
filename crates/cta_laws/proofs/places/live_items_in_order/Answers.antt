use Rattle.cta_laws.proofs.TapeItems as law
use Rattle.cta_laws.proofs.places.live_items_in_order.Goals as goal

pub returns : goal.returns
returns c = law.live_items_in_order
