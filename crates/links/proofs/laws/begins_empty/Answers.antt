use Rattle.links.proofs.Beginning.{begins_empty}
use Rattle.links.proofs.laws.begins_empty.Goals as goal

pub returns : goal.returns
returns c = begins_empty c.no_bytes.ensures
