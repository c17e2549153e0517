use Rattle.part_laws.proofs.ShelfLaw as law
use Rattle.part_laws.proofs.entries.next_takes_medium.Goals as goal

pub returns : goal.returns
returns c = law.next_takes_medium
