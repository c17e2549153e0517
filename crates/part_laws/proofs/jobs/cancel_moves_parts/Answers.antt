use Rattle.part_laws.proofs.CancelParts as law
use Rattle.part_laws.proofs.jobs.cancel_moves_parts.Goals as goal

pub returns : goal.returns
returns c = law.parts_cancel_by
