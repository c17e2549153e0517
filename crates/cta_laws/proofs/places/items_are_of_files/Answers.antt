use Rattle.cta_laws.proofs.ItemLaw as law
use Rattle.cta_laws.proofs.places.items_are_of_files.Goals as goal

pub returns : goal.returns
returns c = law.items_are_of_files
