use Rattle.part_laws.proofs.ShelfLaw as law
use Rattle.part_laws.proofs.entries.end_brings_medium.Goals as goal

pub returns : goal.returns
returns c = law.end_brings_medium
