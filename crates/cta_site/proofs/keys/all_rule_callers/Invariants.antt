use Rattle.std.proofs.Common.{◌≡◌, map, take}
use Rattle.cta_site.specs.Keys.{rule_caller}
use Rattle.cta_site.proofs.keys.all_rule_callers.Given as goal

abbrev pub invariant-loop-rule : goal.invariant-loop-rule
invariant-loop-rule l = map (λ k. k.items) l.keys.items ≡ map rule_caller (take l.rule-index l.rules)
