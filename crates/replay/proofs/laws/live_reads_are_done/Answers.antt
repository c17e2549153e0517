use Rattle.replay.proofs.ReadLines.{reads_done}
use Rattle.replay.proofs.laws.live_reads_are_done.Goals as goal

pub returns : goal.returns
returns c = reads_done
