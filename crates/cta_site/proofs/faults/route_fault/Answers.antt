use Rattle.std.proofs.Common.{◌≡◌, ◌∙◌, ap, map}
use Rattle.cta_site.specs.declared.site.TapePool.{TapePool}
use Rattle.cta_site.specs.declared.site.Route.{Route}
use Rattle.cta_site.specs.Items.{first_failing, is_among}
use Rattle.cta_site.specs.References.{route_has_pool}
use Rattle.cta_site.specs.Names.{pool_names}
use Rattle.cta_site.proofs.Moved.{moved}
use Rattle.cta_site.proofs.faults.route_fault.Goals as goal

pub returns : goal.returns
returns c =
    let names : c.in_ok-names.names ≡ pool_names c.args.site.now = c.in_ok-names.ensures ∙ ap (map (λ (p : TapePool). p.name)) c.as_slice-3.ensures in
    let pools : c.route_without_pool.result ≡ first_failing (route_has_pool c.args.site.now) c.args.site.now.routes.items = moved (λ ns (r : Route). is_among ns r.pool) _ _ _ _ _ names c.as_slice-5.ensures c.route_without_pool.ensures.value in
    cc (pools, c.in_ok-ends.ensures, c.route_without_class.ensures.value, c.route_across_vos.ensures.value)
