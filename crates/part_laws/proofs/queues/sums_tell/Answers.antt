use Rattle.part_laws.proofs.SumsLaw as law
use Rattle.part_laws.proofs.queues.sums_tell.Goals as goal

pub returns : goal.returns
returns c = law.sums_tell
