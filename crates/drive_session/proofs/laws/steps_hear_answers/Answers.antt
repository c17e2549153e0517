use Rattle.drive_session.proofs.Phases.{hears_answers}
use Rattle.drive_session.proofs.laws.steps_hear_answers.Goals as goal

pub returns : goal.returns
returns c = hears_answers
