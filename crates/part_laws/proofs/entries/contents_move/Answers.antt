use Rattle.part_laws.proofs.ContentLaw as law
use Rattle.part_laws.proofs.entries.contents_move.Goals as goal

pub returns : goal.returns
returns c = law.contents_move
