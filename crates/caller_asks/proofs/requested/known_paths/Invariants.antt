-- The paths that the loop has passed are known.
use Rattle.std.proofs.Common.{◌≡◌, ℕ, List, take}
use Rattle.std.specs.BTreeSet.{contains_by}
use Rattle.std.specs.Cmp.Lexicographic.{slice_cmp}
use Rattle.std.specs.Ordering.{nat_cmp}
use Rattle.cta_model.specs.History.{has_text}
use Rattle.caller_asks.proofs.requested.known_paths.Given as goal

abbrev pub invariant-loop-path : goal.invariant-loop-path
invariant-loop-path l = (path : List ℕ) → contains_by (λ k. slice_cmp nat_cmp path k.now) l.known ≡ has_text path (take l.path-index l.paths)
