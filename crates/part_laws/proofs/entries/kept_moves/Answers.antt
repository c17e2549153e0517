use Rattle.part_laws.proofs.KeptLaw as law
use Rattle.part_laws.proofs.entries.kept_moves.Goals as goal

pub returns : goal.returns
returns c = law.kept_moves
