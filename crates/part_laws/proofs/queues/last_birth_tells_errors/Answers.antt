use Rattle.part_laws.proofs.LastBirthsLaw as law
use Rattle.part_laws.proofs.queues.last_birth_tells_errors.Goals as goal

pub returns : goal.returns
returns c = law.last_birth_tells_errors
