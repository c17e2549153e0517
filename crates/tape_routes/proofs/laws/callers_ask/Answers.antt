use Rattle.tape_routes.proofs.CallersLaw as law
use Rattle.tape_routes.proofs.laws.callers_ask.Goals as goal

pub returns : goal.returns
returns c = law.all_ask
