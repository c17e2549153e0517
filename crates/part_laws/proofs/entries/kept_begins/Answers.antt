use Rattle.part_laws.proofs.KeptLaw as law
use Rattle.part_laws.proofs.entries.kept_begins.Goals as goal

pub returns : goal.returns
returns c = law.kept_begins
