use Rattle.archive_parts.proofs.Moves as law
use Rattle.archive_parts.proofs.laws.same_parts_are_kept.Goals as goal

pub returns : goal.returns
returns c = law.same_parts_are_kept
