use Rattle.std.proofs.Common.{◌≡◌, ◌∙◌, Some, None, subst, sym, ap}
use Rattle.std.specs.Prelude.{IsSome}
use Rattle.cta_site.specs.declared.site.Site.{Site}
use Rattle.cta_site.specs.declared.site.TapePool.{TapePool}
use Rattle.cta_site.specs.Lookups.{index_by, pool_of_route, route_of}
use Rattle.cta_site.specs.WellFormed.{IsWellFormed}
use Rattle.cta_site.proofs.Routed.{route_copy, route_seen}
use Rattle.cta_site.proofs.valid_site.ValidSite.pool_of.Goals as goal

pub route_of-requires-clause-from : goal.route_of-requires-clause-from
route_of-requires-clause-from c = (route_copy c.args.self.now (subst (λ (s : Site). IsWellFormed s) c.self.view_is c.self.invariant.1) c.args.class c.args.copy c.requires.route).0

pub route_of-requires-clause-to : goal.route_of-requires-clause-to
route_of-requires-clause-to c = (route_copy c.args.self.now (subst (λ (s : Site). IsWellFormed s) c.self.view_is c.self.invariant.1) c.args.class c.args.copy c.requires.route).1

pub unreachable-requires : goal.unreachable-requires
unreachable-requires c =
    let none : route_of c.args.self.now c.args.class c.args.copy ≡ None = route_seen c.self.inside.site c.args.self.now c.args.class c.args.copy c.as_slice.result.now c.as_slice-routes.result.now c.index-as_slice-class.result c.as_bytes.result.now None c.self.view_is c.as_slice.ensures c.as_slice-routes.ensures c.as_bytes.ensures c.requires.class c.index-as_slice-class.is c.in-None.ensures in
    let some = subst (λ o. IsSome o) none c.requires.route in
    absurd (cc)

pub returns : goal.returns
returns c =
    let found : route_of c.args.self.now c.args.class c.args.copy ≡ Some c.in-Some.route.now = route_seen c.self.inside.site c.args.self.now c.args.class c.args.copy c.as_slice.result.now c.as_slice-routes.result.now c.index-as_slice-class.result c.as_bytes.result.now (Some c.in-Some.route.now) c.self.view_is c.as_slice.ensures c.as_slice-routes.ensures c.as_bytes.ensures c.requires.class c.index-as_slice-class.is c.in-Some.ensures in
    c.number_of.ensures
    ∙ ap (λ l. index_by (λ (p : TapePool). p.name) l c.as_bytes-in-Some.result.now) c.as_slice-pools.ensures
    ∙ ap (index_by (λ (p : TapePool). p.name) c.self.inside.site.pools.items) c.as_bytes-in-Some.ensures
    ∙ ap (λ (s : Site). index_by (λ (p : TapePool). p.name) s.pools.items c.in-Some.route.now.pool) c.self.view_is
    ∙ sym (ap (pool_of_route c.args.self.now) found)
