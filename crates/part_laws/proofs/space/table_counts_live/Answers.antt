use Rattle.part_laws.proofs.Count as law
use Rattle.part_laws.proofs.space.table_counts_live.Goals as goal

pub returns : goal.returns
returns c = law.live_is
