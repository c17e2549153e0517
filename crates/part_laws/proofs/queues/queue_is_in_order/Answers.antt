use Rattle.part_laws.proofs.Members as law
use Rattle.part_laws.proofs.queues.queue_is_in_order.Goals as goal

pub returns : goal.returns
returns c = law.queue_is_sorted
