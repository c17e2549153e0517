use Rattle.links.proofs.RunLaws.{each_alone}
use Rattle.links.proofs.laws.each_alone.Goals as goal

pub returns : goal.returns
returns c = each_alone
