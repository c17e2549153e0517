use Rattle.part_laws.proofs.QueueSizes.{lines_are_small}
use Rattle.part_laws.proofs.sizes.lines_are_small.Goals as goal

pub returns : goal.returns
returns c = lines_are_small c.numbers_are_known.ensures.classes c.valid_is_well_formed.ensures
