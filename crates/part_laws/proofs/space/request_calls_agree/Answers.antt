use Rattle.part_laws.proofs.SameBooks as law
use Rattle.part_laws.proofs.space.request_calls_agree.Goals as goal

pub returns : goal.returns
returns c = law.request_calls_agree
