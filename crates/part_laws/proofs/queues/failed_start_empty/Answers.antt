use Rattle.part_laws.proofs.FailedSteps as law
use Rattle.part_laws.proofs.queues.failed_start_empty.Goals as goal

pub returns : goal.returns
returns c = law.failed_start_empty
