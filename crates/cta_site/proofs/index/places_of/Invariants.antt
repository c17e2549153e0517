use Rattle.std.proofs.Common.{◌≡◌, ℕ, List, take}
use Rattle.std.specs.Prelude.{bytes_eq}
use Rattle.std.specs.List.{position}
use Rattle.cta_site.specs.NameMap.{number_in}
use Rattle.cta_site.proofs.index.places_of.Given as goal

abbrev pub invariant-loop-place : goal.invariant-loop-place
invariant-loop-place g l = (key : List ℕ) → number_in l.places key ≡ position (λ x. bytes_eq (g.T.Named.name_of x) key) (take l.place l.items)
