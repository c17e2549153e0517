use Rattle.archive_restore.proofs.FirstWrong.{wrong_once}
use Rattle.archive_restore.proofs.laws.log_is_wrong_once.Goals as goal

pub returns : goal.returns
returns c = wrong_once
