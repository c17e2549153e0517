use Rattle.part_laws.proofs.QueueSteps as law
use Rattle.part_laws.proofs.queues.others_leave_queues.Goals as goal

pub returns : goal.returns
returns c = law.queue_same
