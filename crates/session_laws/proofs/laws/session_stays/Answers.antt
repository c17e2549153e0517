use Rattle.session_laws.proofs.Stays as law
use Rattle.session_laws.proofs.laws.session_stays.Goals as goal

pub returns : goal.returns
returns g c = law.session_stays g.D.Medium.Told.told
