use Rattle.part_laws.proofs.DownSteps as law
use Rattle.part_laws.proofs.jobs.downs_move.Goals as goal

pub returns : goal.returns
returns c = law.downs_move
