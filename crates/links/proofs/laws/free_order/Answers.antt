use Rattle.links.proofs.RunLaws.{free_order}
use Rattle.links.proofs.laws.free_order.Goals as goal

pub returns : goal.returns
returns c = free_order
