use Rattle.std.proofs.Common.{subst}
use Rattle.cta_site.specs.declared.site.Site.{Site}
use Rattle.cta_site.specs.WellFormed.{IsWellFormed}
use Rattle.cta_site.proofs.Laws.{drives_are_named, drives_are_found, tapes_are_named, tapes_are_found}
use Rattle.cta_site.proofs.valid_site.ValidSite.names_differ.Goals as goal

pub returns-clause-drives_named : goal.returns-clause-drives_named
returns-clause-drives_named c = drives_are_named c.args.self.now (subst (λ (s : Site). IsWellFormed s) c.self.view_is c.self.invariant.1)

pub returns-clause-drives_found : goal.returns-clause-drives_found
returns-clause-drives_found c = drives_are_found c.args.self.now

pub returns-clause-tapes_named : goal.returns-clause-tapes_named
returns-clause-tapes_named c = tapes_are_named c.args.self.now (subst (λ (s : Site). IsWellFormed s) c.self.view_is c.self.invariant.1)

pub returns-clause-tapes_found : goal.returns-clause-tapes_found
returns-clause-tapes_found c = tapes_are_found c.args.self.now
