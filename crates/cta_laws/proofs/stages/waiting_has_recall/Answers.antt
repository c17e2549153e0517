use Rattle.cta_laws.proofs.Waiting as law
use Rattle.cta_laws.proofs.stages.waiting_has_recall.Goals as goal

pub returns : goal.returns
returns c = law.waiting_has_recall
