use Rattle.session_laws.proofs.Goes as law
use Rattle.session_laws.proofs.laws.answers_come_with_hands.Goals as goal

pub returns : goal.returns
returns g c = law.answers_come_with_hands g.D.Medium.Told.told
