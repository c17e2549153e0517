-- A valid site.
use Rattle.std.specs.Prelude.{◌≡◌, None}
use Rattle.cta_site.specs.declared.site.Site.{Site}
use Rattle.cta_site.specs.Faults.{first_fault}
use Rattle.cta_site.specs.Numbering.{IsInOrder}

-- a valid site breaks none of rules 3 to 30, and its numbered lists are in byte order of their names
pub record IsValidSite (site : Site) : Type 0 where
  pub rules : first_fault site ≡ None
  pub in_order : IsInOrder site
