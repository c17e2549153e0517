use Rattle.std.proofs.Common.{◌∙◌, ap}
use Rattle.std.specs.Prelude.{slice_get, option_map}
use Rattle.std.specs.Option.{option_and_then}
use Rattle.cta_site.specs.declared.site.Rule.{Rule}
use Rattle.cta_site.specs.Lookups.{is_rule_for}
use Rattle.cta_site.proofs.Found.{found_at}
use Rattle.cta_site.proofs.lookups.policy_by_rule.Goals as goal

pub returns : goal.returns
returns c = λ kind has.
    c.policy_at.ensures ∙ ap (option_map (λ (r : Rule). r.policy)) (ap (option_and_then (slice_get c.args.rules.now)) (c.number.ensures ∙ has c.args.name.now) ∙ found_at (is_rule_for kind c.args.name.now) c.args.rules.now)
