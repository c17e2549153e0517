use Rattle.std.proofs.Common.{◌≤◌, length, take, arith}
use Rattle.std.proofs.lemmas.List.{length-take-le}
use Rattle.cta_site.specs.Lookups.{is_route_of}
use Rattle.cta_site.proofs.Counts.{of_class, of_no_class, count_next, filtered_few}
use Rattle.cta_site.proofs.references.routes_counted.Goals as goal
use Rattle.cta_site.proofs.references.routes_counted.Goals.{then-route-copy+in_ok-add, else-route-copy}

pub add-requires : goal.add-requires
add-requires c =
    let few = filtered_few (is_route_of c.as_bytes.result.now c.args.copy) (take c.loop-route.route-index c.args.routes.now) in
    let fits : c.loop-route.route-index ≤ length c.args.routes.now = omega arith in
    let taken = length-take-le c.loop-route.route-index c.args.routes.now fits in
    let count = c.loop-route.invariant c.as_bytes.result.now in
    omega arith

pub loop-route-preserved : goal.loop-route-preserved
loop-route-preserved c =
    elim c.if-route-copy.branch [
      | then-route-copy+in_ok-add w ↦ rw w.tally-is (λ class. count_next (is_route_of class c.args.copy) c.args.routes.now c.loop-route.route-index c.route-item.result _ _ _ c.loop-route-test.true c.route-item.is (of_class c.route-item.result class c.args.copy w.if-route-copy.true) (c.loop-route.invariant class) (rw w.as_bytes.ensures at w.in_ok-add.ensures class))
      | else-route-copy w ↦ rw w.tally-is (λ class. count_next (is_route_of class c.args.copy) c.args.routes.now c.loop-route.route-index c.route-item.result _ _ _ c.loop-route-test.true c.route-item.is (of_no_class c.route-item.result class c.args.copy w.if-route-copy.false) (c.loop-route.invariant class) (omega arith))
    ]
