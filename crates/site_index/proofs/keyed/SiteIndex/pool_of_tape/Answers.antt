use Rattle.std.proofs.Common.{◌∙◌, ap}
use Rattle.cta_site.specs.declared.site.Site.{Site}
use Rattle.cta_site.specs.Lookups.{pool_of_tape}
use Rattle.site_index.proofs.Told.{tape_none, tape_some}
use Rattle.site_index.proofs.keyed.SiteIndex.pool_of_tape.Goals as goal

pub returns-in-Some : goal.returns-in-Some
returns-in-Some c = let e = rw c.deref.ensures.value at c.in-Some.ensures in tape_some _ _ _ c.args.tape c.in-Some.pool c.self.invariant e ∙ ap (λ (s : Site). pool_of_tape s c.args.tape) c.self.view_is

pub returns-in-None : goal.returns-in-None
returns-in-None c = let e = rw c.deref.ensures.value at c.in-None.ensures in rw c.pools.ensures (tape_none _ _ _ c.args.tape c.self.invariant e ∙ ap (λ (s : Site). pool_of_tape s c.args.tape) c.self.view_is)
