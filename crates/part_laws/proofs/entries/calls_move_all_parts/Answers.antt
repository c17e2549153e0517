use Rattle.part_laws.proofs.EntryMoves as law
use Rattle.part_laws.proofs.entries.calls_move_all_parts.Goals as goal

pub returns : goal.returns
returns c = law.calls_move_all_parts
