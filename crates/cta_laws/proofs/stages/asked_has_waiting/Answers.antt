use Rattle.cta_laws.proofs.Waiting as law
use Rattle.cta_laws.proofs.stages.asked_has_waiting.Goals as goal

pub returns : goal.returns
returns c = law.asked_has_waiting
