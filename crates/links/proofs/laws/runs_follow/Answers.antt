use Rattle.links.proofs.RunLaws.{runs_follow}
use Rattle.links.proofs.laws.runs_follow.Goals as goal

pub returns : goal.returns
returns c = runs_follow
