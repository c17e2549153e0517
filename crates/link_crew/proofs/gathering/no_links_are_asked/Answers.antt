use Rattle.link_crew.proofs.Accounts.{none_asked}
use Rattle.link_crew.proofs.gathering.no_links_are_asked.Goals as goal

pub returns : goal.returns
returns g c = λ limit needs. none_asked g.F.Front.question g.F.Callers.is_callers g.L.Link.left g.L.Link.firm limit needs
