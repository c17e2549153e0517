use Rattle.cta_laws.proofs.EndLaw as law
use Rattle.cta_laws.proofs.jobs.ends_for_good.Goals as goal

pub returns : goal.returns
returns c = law.ends_for_good
