use Rattle.std.proofs.Common.{◌≡◌, ◌∷◌, ◌∙◌, ap, sym}
use Rattle.cta_model.specs.Bare.{bare_entry}
use Rattle.cta_model.specs.History.{History, weight_of}
use Rattle.cta_model.specs.Newest.{history_in}
use Rattle.cta_model.proofs.Newest.{history_in-push}
use Rattle.kept_history.specs.Weight.{capped}
use Rattle.kept_history.proofs.Weights.{cap_more, few_more}
use Rattle.kept_history.proofs.history.KeptHistory.push.Goals as goal

pub invariant_of-self : goal.invariant_of-self
invariant_of-self c =
    let pushed : history_in c.push.new.self.items ≡ bare_entry c.args.entry ∷ history_in c.self.inside.entries.items = ap history_in c.push.ensures.items ∙ history_in-push _ _ in
    record {
      counted = c.saturating_add-self-inside.ensures ∙ cap_more _ _ _ _ c.self.invariant.counted c.weight_of_entry-weight.ensures ∙ ap (λ (h : History). capped (weight_of h)) (sym pushed);
      few = few_more _ _ _ _ _ (sym c.self.view_is) c.push.ensures.items c.requires.few;
    }
