use Rattle.std.proofs.Common.{◌≡◌, map, take}
use Rattle.cta_site.specs.Keys.{route_ends}
use Rattle.cta_site.proofs.keys.all_route_ends.Given as goal

abbrev pub invariant-loop-route : goal.invariant-loop-route
invariant-loop-route l = map (λ k. k.items) l.keys.items ≡ map route_ends (take l.route-index l.routes)
