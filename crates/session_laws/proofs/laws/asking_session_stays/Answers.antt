use Rattle.session_laws.proofs.Stays as law
use Rattle.session_laws.proofs.laws.asking_session_stays.Goals as goal

pub returns : goal.returns
returns g c = law.asking_session_stays g.D.Medium.Told.told
