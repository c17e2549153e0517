use Rattle.part_laws.proofs.RepackLists as law
use Rattle.part_laws.proofs.jobs.recalled_moves_parts.Goals as goal

pub returns : goal.returns
returns c = law.parts_recalled_by
