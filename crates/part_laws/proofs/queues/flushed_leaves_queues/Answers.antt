use Rattle.part_laws.proofs.EndSteps as law
use Rattle.part_laws.proofs.queues.flushed_leaves_queues.Goals as goal

pub returns : goal.returns
returns c = law.flushed_queue
