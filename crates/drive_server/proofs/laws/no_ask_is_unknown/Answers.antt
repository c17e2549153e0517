use Rattle.drive_server.proofs.Stepping as law
use Rattle.drive_server.proofs.laws.no_ask_is_unknown.Goals as goal

pub returns : goal.returns
returns g c = law.no_ask_is_unknown g.M.Told.told
