use Rattle.part_laws.proofs.FailedMembers as law
use Rattle.part_laws.proofs.queues.failed_tell.Goals as goal

pub returns : goal.returns
returns c = law.failed_tell
