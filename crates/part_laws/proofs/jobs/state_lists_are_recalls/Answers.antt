use Rattle.part_laws.proofs.StateLists as law
use Rattle.part_laws.proofs.jobs.state_lists_are_recalls.Goals as goal

pub returns : goal.returns
returns c = law.state_lists
