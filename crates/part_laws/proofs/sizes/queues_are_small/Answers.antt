use Rattle.part_laws.proofs.QueueSizes.{queues_are_small}
use Rattle.part_laws.proofs.sizes.queues_are_small.Goals as goal

pub returns : goal.returns
returns c = queues_are_small c.numbers_are_known.ensures.classes c.valid_is_well_formed.ensures
