use Rattle.part_laws.proofs.ShelfLaw as law
use Rattle.part_laws.proofs.entries.shelf_stays.Goals as goal

pub returns : goal.returns
returns c = law.shelf_stays
