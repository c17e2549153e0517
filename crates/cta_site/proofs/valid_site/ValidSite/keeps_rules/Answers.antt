use Rattle.std.proofs.Common.{subst}
use Rattle.cta_site.specs.declared.site.Site.{Site}
use Rattle.cta_site.specs.WellFormed.{IsWellFormed}
use Rattle.cta_site.proofs.valid_site.ValidSite.keeps_rules.Goals as goal

pub returns-clause-parts : goal.returns-clause-parts
returns-clause-parts c = subst (λ (s : Site). IsWellFormed s) c.self.view_is c.self.invariant.1
