use Rattle.part_laws.proofs.RepackParts as law
use Rattle.part_laws.proofs.jobs.repack_moves_parts.Goals as goal

pub returns : goal.returns
returns c = law.parts_repack_by
