-- The jobs that are made and those that the loop has still to make are all of them, and the paths that it has passed are seen.
use Rattle.std.proofs.Common.{◌≡◌, ◌++◌, ℕ, List, [], drop, take}
use Rattle.std.specs.BTreeSet.{contains_by}
use Rattle.std.specs.Cmp.Lexicographic.{slice_cmp}
use Rattle.std.specs.Ordering.{nat_cmp}
use Rattle.cta_model.specs.History.{has_text}
use Rattle.part_laws.specs.Operators.{retried_told}
use Rattle.fault_asks.proofs.copies.retried_jobs.Given as goal

abbrev pub invariant-loop-path : goal.invariant-loop-path
invariant-loop-path l = record {
  seen : (path : List ℕ) → contains_by (λ k. slice_cmp nat_cmp path k.now) l.seen ≡ has_text path (take l.path-index l.paths);
  made : l.jobs.items ++ retried_told l.names l.failed.value l.number (take l.path-index l.paths) (drop l.path-index l.paths) ≡ retried_told l.names l.failed.value l.number [] l.paths;
}
