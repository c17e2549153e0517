use Rattle.part_laws.proofs.RetryParts as law
use Rattle.part_laws.proofs.jobs.retry_moves_parts.Goals as goal

pub returns : goal.returns
returns c = law.parts_retry
