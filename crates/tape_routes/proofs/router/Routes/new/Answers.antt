use Rattle.std.proofs.Common.{get_or, arith, below_more}
use Rattle.tape_routes.specs.declared.routes.Endpoint.TheVariants as at
use Rattle.tape_routes.specs.declared.routes.TheConstants.{ENDPOINTS}
use Rattle.tape_routes.proofs.Finding.{led_more, leads_more, leads_it, every, finds_routes}
use Rattle.tape_routes.proofs.Conflicts.{among_more, stands_apart}
use Rattle.tape_routes.proofs.router.Routes.new.Goals as goal

pub loop-endpoint-preserved : goal.loop-endpoint-preserved
loop-endpoint-preserved c =
    let more = c.in_ok-add.ensures in (
      led_more _ c.loop-endpoint.router c.add.new.router more c.loop-endpoint.invariant.0,
      among_more _ c.loop-endpoint.router c.add.new.router more c.loop-endpoint.invariant.1,
      below_more _ _ (λ k h. leads_more _ (get_or ENDPOINTS k at.WellKnown) c.loop-endpoint.router c.add.new.router more (c.loop-endpoint.invariant.2 k h)) (leads_it _ c.loop-endpoint.router c.add.new.router more),
    )

pub invariant_of-result : goal.invariant_of-result
invariant_of-result c = record {
  finds = finds_routes c.loop-endpoint.router c.loop-endpoint.invariant.0 (every c.loop-endpoint.router (λ k h. c.loop-endpoint.invariant.2 k (omega arith)));
}

pub add-requires : goal.add-requires
add-requires c = stands_apart c.loop-endpoint.endpoint-index c.loop-endpoint.router (omega arith) c.loop-endpoint.invariant.0 c.loop-endpoint.invariant.1
