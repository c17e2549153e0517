use Rattle.part_laws.proofs.SameBuffers as law
use Rattle.part_laws.proofs.space.buffer_calls_agree.Goals as goal

pub returns : goal.returns
returns c = law.buffer_calls_agree
