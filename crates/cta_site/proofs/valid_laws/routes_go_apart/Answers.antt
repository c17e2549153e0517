use Rattle.cta_site.proofs.Apart as law
use Rattle.cta_site.proofs.valid_laws.routes_go_apart.Goals as goal

pub returns : goal.returns
returns c = law.routes_go_apart
