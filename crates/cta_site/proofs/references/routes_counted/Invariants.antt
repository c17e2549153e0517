use Rattle.std.proofs.Common.{◌≡◌, ℕ, List, length, take}
use Rattle.std.specs.List.{filter}
use Rattle.cta_site.specs.Lookups.{is_route_of}
use Rattle.cta_site.specs.NameMap.{count_in}
use Rattle.cta_site.proofs.references.routes_counted.Given as goal

abbrev pub invariant-loop-route : goal.invariant-loop-route
invariant-loop-route l = (class : List ℕ) → count_in l.tally class ≡ length (filter (is_route_of class l.copy) (take l.route-index l.routes))
