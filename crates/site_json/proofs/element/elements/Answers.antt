use Rattle.std.proofs.Common.{◌≡◌, ◌<◌, true, length, sym, subst, arith}
use Rattle.serde_json.specs.View.{view}
use Rattle.site_json.proofs.Lists.{pass_at}
use Rattle.site_json.proofs.element.elements.Goals as goal

pub of-requires : goal.of-requires
of-requires g c =
    let low : c.loop-value.value-index < length c.args.values.now = omega arith in
    subst (λ v. g.T.Element.is_element (view v) ≡ true) (sym c.value-item.is)
    (pass_at g.T.Element.is_element view c.args.values.now c.loop-value.value-index c.value-item.result low c.requires)
