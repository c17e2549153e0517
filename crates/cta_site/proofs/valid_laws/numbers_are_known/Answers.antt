use Rattle.cta_site.proofs.Known.{classes_are_known, policies_are_known}
use Rattle.cta_site.proofs.Numbered.{well_formed}
use Rattle.cta_site.proofs.Routed.{copies_are_routed}
use Rattle.cta_site.proofs.valid_laws.numbers_are_known.Goals as goal

pub returns-clause-classes : goal.returns-clause-classes
returns-clause-classes c = λ site valid. classes_are_known site (well_formed site valid)

pub returns-clause-policies : goal.returns-clause-policies
returns-clause-policies c = λ site valid. policies_are_known site (well_formed site valid)

pub returns-clause-pools : goal.returns-clause-pools
returns-clause-pools c = copies_are_routed
