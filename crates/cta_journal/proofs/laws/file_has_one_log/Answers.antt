use Rattle.cta_journal.proofs.Records.{same_log}
use Rattle.cta_journal.proofs.laws.file_has_one_log.Goals as goal

pub returns : goal.returns
returns c = λ file one other low here there. same_log file one other low here there
