use Rattle.part_laws.proofs.KeptLaw as law
use Rattle.part_laws.proofs.entries.accepted_ask_moves_kept.Goals as goal

pub returns : goal.returns
returns c = law.accepted_ask_moves_kept
