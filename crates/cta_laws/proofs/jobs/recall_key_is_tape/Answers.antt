use Rattle.cta_laws.proofs.KeyLaw as law
use Rattle.cta_laws.proofs.jobs.recall_key_is_tape.Goals as goal

pub returns : goal.returns
returns c = law.recall_key_is_tape
