use Rattle.std.proofs.Common.{◌∙◌, ap}
use Rattle.cta_site.specs.declared.site.Site.{Site}
use Rattle.cta_site.specs.Lookups.{vo_of_pool}
use Rattle.site_index.proofs.Told.{pool_none, pool_some}
use Rattle.site_index.proofs.keyed.SiteIndex.vo_of_pool.Goals as goal

pub returns-in-Some : goal.returns-in-Some
returns-in-Some c = let e = rw c.deref.ensures.value at c.in-Some.ensures in pool_some _ _ _ c.args.pool c.in-Some.vo c.self.invariant e ∙ ap (λ (s : Site). vo_of_pool s c.args.pool) c.self.view_is

pub returns-in-None : goal.returns-in-None
returns-in-None c = let e = rw c.deref.ensures.value at c.in-None.ensures in c.vo_number.ensures ∙ pool_none _ _ _ c.args.pool c.self.invariant e ∙ ap (λ (s : Site). vo_of_pool s c.args.pool) c.self.view_is
