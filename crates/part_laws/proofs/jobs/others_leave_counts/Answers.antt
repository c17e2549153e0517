use Rattle.part_laws.proofs.CountSteps as law
use Rattle.part_laws.proofs.jobs.others_leave_counts.Goals as goal

pub returns : goal.returns
returns c = law.others_leave_counts
