use Rattle.part_laws.proofs.TurnLaws as law
use Rattle.part_laws.proofs.jobs.drop_is_two_calls.Goals as goal

pub returns : goal.returns
returns c = law.drop_is_two_calls
