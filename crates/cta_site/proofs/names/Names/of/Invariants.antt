use Rattle.std.proofs.Common.{◌≡◌, ℕ, List, map, take}
use Rattle.std.specs.BTreeSet.{contains_by}
use Rattle.std.specs.Cmp.Lexicographic.{slice_cmp}
use Rattle.std.specs.Ordering.{nat_cmp}
use Rattle.cta_site.specs.Items.{is_among}
use Rattle.cta_site.proofs.names.Names.of.Given as goal

abbrev pub invariant-loop-name : goal.invariant-loop-name
invariant-loop-name l = (name : List ℕ) → contains_by (λ k. slice_cmp nat_cmp name k.now) l.known ≡ is_among (take l.name-index (map (λ b. b.now) l.fn.names.items)) name
