use Rattle.cta_laws.proofs.Ways as law
use Rattle.cta_laws.proofs.jobs.claims_go_their_way.Goals as goal

pub returns : goal.returns
returns c = law.claims_way
