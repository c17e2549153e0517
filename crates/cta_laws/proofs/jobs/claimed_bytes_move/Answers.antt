use Rattle.cta_laws.proofs.ClaimedSizes as law
use Rattle.cta_laws.proofs.jobs.claimed_bytes_move.Goals as goal

pub returns : goal.returns
returns c = law.claimed_exact
