use Rattle.part_laws.proofs.ShelfLaw as law
use Rattle.part_laws.proofs.entries.shelf_starts_full.Goals as goal

pub returns : goal.returns
returns c = law.shelf_starts_full
