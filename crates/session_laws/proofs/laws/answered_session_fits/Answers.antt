use Rattle.session_laws.proofs.Behind as law
use Rattle.session_laws.proofs.laws.answered_session_fits.Goals as goal

pub returns : goal.returns
returns g c = law.answered_session_fits g.D.Medium.Told.told
