use Rattle.std.proofs.Common.{◌≡◌, ℕ, List, map, take, drop}
use Rattle.std.specs.Prelude.{bytes_eq}
use Rattle.std.specs.BTreeSet.{contains_by}
use Rattle.std.specs.Cmp.Lexicographic.{slice_cmp}
use Rattle.std.specs.Ordering.{nat_cmp}
use Rattle.cta_site.specs.Items.{is_among, first_repeat, repeat_after}
use Rattle.cta_site.proofs.names.first_repeat.Given as goal

abbrev pub invariant-loop-place : goal.invariant-loop-place
invariant-loop-place l = record {
  seen : (name : List ℕ) → contains_by (λ k. slice_cmp nat_cmp name k.now) l.seen ≡ is_among (take l.place (map (λ b. b.now) l.names)) name;
  left : repeat_after bytes_eq (take l.place (map (λ b. b.now) l.names)) (drop l.place (map (λ b. b.now) l.names)) ≡ first_repeat (map (λ b. b.now) l.names);
}
