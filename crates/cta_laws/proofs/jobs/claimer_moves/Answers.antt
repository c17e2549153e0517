use Rattle.cta_laws.proofs.Claimers as law
use Rattle.cta_laws.proofs.jobs.claimer_moves.Goals as goal

pub returns : goal.returns
returns c = law.claimer_step
