use Rattle.part_laws.proofs.RowAnswers as law
use Rattle.part_laws.proofs.jobs.rows_tell_mounts.Goals as goal

pub returns : goal.returns
returns c = law.rows_tell_mounts
