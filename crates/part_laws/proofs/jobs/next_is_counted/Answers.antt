use Rattle.part_laws.proofs.CountSteps as law
use Rattle.part_laws.proofs.jobs.next_is_counted.Goals as goal

pub returns : goal.returns
returns c = law.next_is_counted
