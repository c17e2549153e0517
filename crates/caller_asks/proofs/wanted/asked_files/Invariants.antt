-- The files that the loop has made and those that it has still to make are all of them, and the paths of those made are seen.
use Rattle.std.proofs.Common.{◌≡◌, ◌++◌, ℕ, List, [], map, drop}
use Rattle.std.specs.BTreeSet.{contains_by}
use Rattle.std.specs.Cmp.Lexicographic.{slice_cmp}
use Rattle.std.specs.Ordering.{nat_cmp}
use Rattle.cta_model.specs.History.{has_text}
use Rattle.cta_model.specs.Stages.{first_named}
use Rattle.caller_asks.specs.Wanted.{asked_in}
use Rattle.caller_asks.proofs.WantedLists.{paths_in}
use Rattle.caller_asks.proofs.wanted.asked_files.Given as goal

abbrev pub invariant-loop-one : goal.invariant-loop-one
invariant-loop-one l = record {
  seen : (path : List ℕ) → contains_by (λ k. slice_cmp nat_cmp path k.now) l.seen ≡ has_text path (paths_in l.files.items);
  made : l.files.items ++ map (asked_in l.names l.lifetime) (first_named (paths_in l.files.items) (drop l.one-index l.wanted)) ≡ map (asked_in l.names l.lifetime) (first_named [] l.wanted);
}
