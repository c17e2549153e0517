use Rattle.std.proofs.Common.{◌≡◌, ◌∙◌, ap, map}
use Rattle.cta_site.specs.declared.site.Class.{Class}
use Rattle.cta_site.specs.declared.site.TapePool.{TapePool}
use Rattle.cta_site.specs.declared.site.Vo.{Vo}
use Rattle.cta_site.specs.Items.{first_failing, is_among}
use Rattle.cta_site.specs.References.{class_has_vo, pool_has_vo}
use Rattle.cta_site.specs.Names.{vo_names}
use Rattle.cta_site.proofs.Moved.{moved}
use Rattle.cta_site.proofs.faults.class_fault.Goals as goal

pub returns : goal.returns
returns c =
    let names : c.in_ok-vos.vos ≡ vo_names c.args.site.now = c.in_ok-vos.ensures ∙ ap (map (λ (v : Vo). v.name)) c.as_slice.ensures in
    let classes : c.class_without_vo.result ≡ first_failing (class_has_vo c.args.site.now) c.args.site.now.classes.items = moved (λ ns (k : Class). is_among ns k.vo) _ _ _ _ _ names c.as_slice-2.ensures c.class_without_vo.ensures.value in
    let pools : c.pool_without_vo.result ≡ first_failing (pool_has_vo c.args.site.now) c.args.site.now.pools.items = moved (λ ns (p : TapePool). is_among ns p.vo) _ _ _ _ _ names c.as_slice-3.ensures c.pool_without_vo.ensures.value in
    cc (classes, pools, c.in_ok-class_without_routes.ensures.value)
