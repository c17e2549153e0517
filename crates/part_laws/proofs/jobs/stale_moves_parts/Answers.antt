use Rattle.part_laws.proofs.StaleParts as law
use Rattle.part_laws.proofs.jobs.stale_moves_parts.Goals as goal

pub returns : goal.returns
returns c = law.parts_recalled_stale
