use Rattle.part_laws.proofs.ContentLaw as law
use Rattle.part_laws.proofs.entries.contents_start_empty.Goals as goal

pub returns : goal.returns
returns c = law.contents_start_empty
