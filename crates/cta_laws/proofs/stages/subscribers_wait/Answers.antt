use Rattle.cta_laws.proofs.Subscribers as law
use Rattle.cta_laws.proofs.stages.subscribers_wait.Goals as goal

pub returns : goal.returns
returns c = law.subscribers_wait
