use Rattle.std.proofs.Common.{◌∙◌, ap, map}
use Rattle.cta_site.specs.Items.{fault, first_repeat}
use Rattle.cta_site.specs.Keys.{route_ends}
use Rattle.cta_site.specs.References.{same_ends}
use Rattle.cta_site.proofs.Telling.{repeats_by_key, ends_tell}
use Rattle.std.proofs.lemmas.Result.{IfOk-weaker}
use Rattle.cta_site.proofs.keys.route_repeat.Goals as goal

pub returns : goal.returns
returns c = IfOk-weaker c.repeat_of.result _ _ (λ f e. e ∙ ap (fault c.args.rule) (ap (λ ks. first_repeat (map (λ k. k.items) ks)) c.as_slice.ensures.value ∙ ap first_repeat c.in_ok-keys.ensures ∙ repeats_by_key same_ends route_ends ends_tell c.args.routes.now)) c.repeat_of.ensures
