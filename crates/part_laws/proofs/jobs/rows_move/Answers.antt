use Rattle.part_laws.proofs.RowSteps as law
use Rattle.part_laws.proofs.jobs.rows_move.Goals as goal

pub returns : goal.returns
returns c = law.rows_move
