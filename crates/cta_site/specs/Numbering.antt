-- A site with its numbered lists in order.
use Rattle.std.specs.Prelude.{◌≡◌, ℕ, List}
use Rattle.std.specs.List.Sorted.{IsPermutation}
use Rattle.cta_values.specs.ByName.{IsByName}
use Rattle.cta_site.specs.declared.site.Site.{Site}
use Rattle.cta_site.specs.declared.site.Vo.{Vo}
use Rattle.cta_site.specs.declared.site.Class.{Class}
use Rattle.cta_site.specs.declared.site.TapePool.{TapePool}
use Rattle.cta_site.specs.declared.site.Policy.{Policy}
use Rattle.cta_site.specs.declared.site.Tape.{Tape}
use Rattle.cta_site.specs.declared.site.Drive.{Drive}
use Rattle.cta_site.specs.Bare.{bare_site}

-- each numbered list of a site is in byte order of its names
pub record IsInOrder (site : Site) : Type 0 where
  pub vos : IsByName (λ (v : Vo). v.name) site.vos.items
  pub classes : IsByName (λ (c : Class). c.name) site.classes.items
  pub pools : IsByName (λ (p : TapePool). p.name) site.pools.items
  pub policies : IsByName (λ (p : Policy). p.name) site.policies.items
  pub libraries : IsByName (λ (l : List ℕ). l) site.libraries.items
  pub tapes : IsByName (λ (t : Tape). t.vid) site.tapes.items
  pub drives : IsByName (λ (d : Drive). d.name) site.drives.items

-- a site says what its file says, in which each numbered list has the same elements in some order
pub record Rearranges (file site : Site) : Type 0 where
  pub version : site.version ≡ file.version
  pub sitename : site.sitename ≡ file.sitename
  pub endpoint : site.endpoint ≡ file.endpoint
  pub default_policy : site.default_policy ≡ file.default_policy
  pub repack_policy : site.repack_policy ≡ file.repack_policy
  pub limits : site.limits ≡ file.limits
  pub vos : IsPermutation file.vos.items site.vos.items
  pub classes : IsPermutation file.classes.items site.classes.items
  pub pools : IsPermutation file.pools.items site.pools.items
  pub routes : site.routes.items ≡ file.routes.items
  pub policies : IsPermutation file.policies.items site.policies.items
  pub rules : site.rules.items ≡ file.rules.items
  pub libraries : IsPermutation file.libraries.items site.libraries.items
  pub tapes : IsPermutation file.tapes.items site.tapes.items
  pub drives : IsPermutation file.drives.items site.drives.items
  pub directories : site.directories.items ≡ file.directories.items
  pub failures : site.failures.items ≡ file.failures.items

-- a site says what its file says, its numbered lists are in order, and it has no room to spare in its lists
pub record IsNumberedFrom (file site : Site) : Type 0 where
  pub same : Rearranges file site
  pub in_order : IsInOrder site
  pub bare : site ≡ bare_site site
