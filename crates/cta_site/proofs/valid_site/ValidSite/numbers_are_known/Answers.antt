use Rattle.std.proofs.Common.{subst}
use Rattle.cta_site.specs.declared.site.Site.{Site}
use Rattle.cta_site.specs.ValidSite.{IsValidSite}
use Rattle.cta_site.specs.WellFormed.{IsWellFormed}
use Rattle.cta_site.proofs.Routed.{copies_are_routed}
use Rattle.cta_site.proofs.Known.{classes_are_known, policies_are_known}
use Rattle.cta_site.proofs.valid_site.ValidSite.numbers_are_known.Goals as goal

pub returns-clause-classes : goal.returns-clause-classes
returns-clause-classes c = classes_are_known c.args.self.now (subst (λ (s : Site). IsWellFormed s) c.self.view_is c.self.invariant.1)

pub returns-clause-policies : goal.returns-clause-policies
returns-clause-policies c = policies_are_known c.args.self.now (subst (λ (s : Site). IsWellFormed s) c.self.view_is c.self.invariant.1)

pub returns-clause-pools : goal.returns-clause-pools
returns-clause-pools c = copies_are_routed c.args.self.now (subst (λ (s : Site). IsValidSite s) c.self.view_is c.self.invariant.0)
