use Rattle.replay.proofs.OneOutput.{links_apart}
use Rattle.replay.proofs.laws.links_apart.Goals as goal

pub returns : goal.returns
returns c = links_apart
