use Rattle.part_laws.proofs.StageCalls as law
use Rattle.part_laws.proofs.space.calls_move_requests.Goals as goal

pub returns : goal.returns
returns c = law.calls_move_requests
