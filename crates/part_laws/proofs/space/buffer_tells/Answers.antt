use Rattle.part_laws.proofs.Told as law
use Rattle.part_laws.proofs.space.buffer_tells.Goals as goal

pub returns : goal.returns
returns c = law.buffer_tells
