use Rattle.drive_session.proofs.Lawful as law
use Rattle.drive_session.proofs.examples.lines_stay_lawful.Goals as goal

pub returns : goal.returns
returns c = law.lines_stay_lawful
