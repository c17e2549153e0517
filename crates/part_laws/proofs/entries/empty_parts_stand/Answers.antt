use Rattle.part_laws.proofs.EntryMoves as law
use Rattle.part_laws.proofs.entries.empty_parts_stand.Goals as goal

pub returns : goal.returns
returns c = law.empty_parts_stand
