use Rattle.link_server.proofs.Sessions.{all_are_callers}
use Rattle.durable_server.proofs.front.LoggedFrontCallersLogged.callers_ask.Goals as goal

pub returns : goal.returns
returns g c = all_are_callers c.callers_ask.ensures c.args.self.now.site
