use Rattle.session_laws.proofs.Fit as law
use Rattle.session_laws.proofs.laws.asks_are_fit.Goals as goal

pub returns : goal.returns
returns g c = law.asks_are_fit g.D.Medium.Told.told
