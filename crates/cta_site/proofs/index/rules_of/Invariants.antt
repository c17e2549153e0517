use Rattle.std.proofs.Common.{◌≡◌, ℕ, List, take}
use Rattle.cta_site.specs.Lookups.{is_rule_for}
use Rattle.std.specs.List.{position}
use Rattle.cta_site.specs.NameMap.{number_in}
use Rattle.cta_site.proofs.index.rules_of.Given as goal

abbrev pub invariant-loop-place : goal.invariant-loop-place
invariant-loop-place l = (name : List ℕ) → number_in l.places name ≡ position (is_rule_for l.kind name) (take l.place l.rules)
