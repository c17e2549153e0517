use Rattle.cta_site.specs.Lookups.{is_route_of}
use Rattle.cta_site.proofs.Counts.{of_class, of_no_class}
use Rattle.cta_site.proofs.Found.{place_next, place_same}
use Rattle.cta_site.proofs.index.routes_of.Goals as goal
use Rattle.cta_site.proofs.index.routes_of.Goals.{then-route-copy+in_ok-add, else-route-copy}

pub loop-place-preserved : goal.loop-place-preserved
loop-place-preserved c =
    elim c.if-route-copy.branch [
      | then-route-copy+in_ok-add w ↦ rw w.places-is (λ class. place_next (is_route_of class c.args.copy) c.args.routes.now c.loop-place.place c.index-routes-place.result _ _ _ c.loop-place-test.true c.index-routes-place.is (of_class c.index-routes-place.result class c.args.copy w.if-route-copy.true) (c.loop-place.invariant class) (rw w.as_bytes.ensures at w.in_ok-add.ensures class))
      | else-route-copy w ↦ rw w.places-is (λ class. place_same (is_route_of class c.args.copy) c.args.routes.now c.loop-place.place c.index-routes-place.result _ c.loop-place-test.true c.index-routes-place.is (of_no_class c.index-routes-place.result class c.args.copy w.if-route-copy.false) (c.loop-place.invariant class))
    ]
