use Rattle.conn.proofs.Cuts.{one_cut}
use Rattle.conn.proofs.laws.one_cut.Goals as goal

pub returns : goal.returns
returns c = one_cut
