use Rattle.conn.proofs.NoBytes.{settled_nothing}
use Rattle.conn.proofs.laws.no_bytes.Goals as goal

pub returns : goal.returns
returns c = settled_nothing
