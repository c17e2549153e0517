use Rattle.links.proofs.RunLaws.{one_run}
use Rattle.links.proofs.laws.one_run.Goals as goal

pub returns : goal.returns
returns c = one_run c.one_outcome.ensures
