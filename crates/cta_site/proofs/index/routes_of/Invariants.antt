use Rattle.std.proofs.Common.{◌≡◌, ℕ, List, take}
use Rattle.cta_site.specs.Lookups.{is_route_of}
use Rattle.std.specs.List.{position}
use Rattle.cta_site.specs.NameMap.{number_in}
use Rattle.cta_site.proofs.index.routes_of.Given as goal

abbrev pub invariant-loop-place : goal.invariant-loop-place
invariant-loop-place l = (class : List ℕ) → number_in l.places class ≡ position (is_route_of class l.copy) (take l.place l.routes)
