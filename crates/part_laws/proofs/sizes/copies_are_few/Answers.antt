use Rattle.part_laws.proofs.FileSizes.{few_copies}
use Rattle.part_laws.proofs.sizes.copies_are_few.Goals as goal

pub returns : goal.returns
returns c = λ site valid path. few_copies site (c.numbers_are_known.ensures.classes site valid) path
