use Rattle.std.proofs.Common.{◌≡◌, ◌∙◌, ap, map}
use Rattle.cta_site.specs.declared.site.Policy.{Policy}
use Rattle.cta_site.specs.declared.site.Rule.{Rule}
use Rattle.cta_site.specs.Items.{first_failing, is_among}
use Rattle.cta_site.specs.References.{rule_has_policy}
use Rattle.cta_site.specs.Names.{policy_names}
use Rattle.cta_site.proofs.Moved.{moved}
use Rattle.cta_site.proofs.faults.policy_fault.Goals as goal

pub returns : goal.returns
returns c =
    let names : c.in_ok-policies.policies ≡ policy_names c.args.site.now = c.in_ok-policies.ensures ∙ ap (map (λ (p : Policy). p.name)) c.as_slice.ensures in
    let default : c.has.result ≡ is_among (policy_names c.args.site.now) c.args.site.now.default_policy = c.has.ensures ∙ ap (λ ns. is_among ns c.as_bytes.result.now) names ∙ ap (is_among (policy_names c.args.site.now)) c.as_bytes.ensures in
    let repack : c.has-2.result ≡ is_among (policy_names c.args.site.now) c.args.site.now.repack_policy = c.has-2.ensures ∙ ap (λ ns. is_among ns c.as_bytes-2.result.now) names ∙ ap (is_among (policy_names c.args.site.now)) c.as_bytes-2.ensures in
    let rules : c.rule_without_policy.result ≡ first_failing (rule_has_policy c.args.site.now) c.args.site.now.rules.items = moved (λ ns (r : Rule). is_among ns r.policy) _ _ _ _ _ names c.as_slice-3.ensures c.rule_without_policy.ensures.value in
    cc (default, repack, rules, c.in_ok-callers.ensures)
