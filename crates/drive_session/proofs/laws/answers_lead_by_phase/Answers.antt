use Rattle.drive_session.proofs.Phases.{answers_lead}
use Rattle.drive_session.proofs.laws.answers_lead_by_phase.Goals as goal

pub returns : goal.returns
returns g c = answers_lead
