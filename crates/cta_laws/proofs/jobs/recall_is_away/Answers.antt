use Rattle.cta_laws.proofs.JobFiles as law
use Rattle.cta_laws.proofs.jobs.recall_is_away.Goals as goal

pub returns : goal.returns
returns c = law.recall_absent
