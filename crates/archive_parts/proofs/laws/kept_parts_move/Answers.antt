use Rattle.archive_parts.proofs.Moves as law
use Rattle.archive_parts.proofs.laws.kept_parts_move.Goals as goal

pub returns : goal.returns
returns c = law.kept_parts_move
