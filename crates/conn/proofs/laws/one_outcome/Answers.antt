use Rattle.conn.proofs.Tails.{one_outcome}
use Rattle.conn.proofs.laws.one_outcome.Goals as goal

pub returns : goal.returns
returns c = one_outcome
