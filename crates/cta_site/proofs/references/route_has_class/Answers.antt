use Rattle.std.proofs.Common.{sym}
use Rattle.cta_site.proofs.Routed.{class_found, class_not_found}
use Rattle.cta_site.proofs.references.route_has_class.Goals as goal

pub returns-in-Some : goal.returns-in-Some
returns-in-Some c =
    let found = rw (c.as_slice.ensures, c.as_bytes.ensures) at c.in-Some.ensures in
    class_found c.args.site.now c.args.route.now c.in-Some.class.now (sym found)

pub returns-in-None : goal.returns-in-None
returns-in-None c =
    let missing = rw (c.as_slice.ensures, c.as_bytes.ensures) at c.in-None.ensures in
    class_not_found c.args.site.now c.args.route.now (sym missing)
