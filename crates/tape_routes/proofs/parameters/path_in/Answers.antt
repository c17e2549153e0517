use Rattle.std.proofs.Common.{◌∙◌, sym, ap, Some, None}
use Rattle.std.proofs.lemmas.Str.{IsUtf8-from_is_utf8, is_utf8-from_IsUtf8}
use Rattle.std.specs.Str.{is_utf8}
use Rattle.tape_routes.proofs.Choices.{chosen, not_chosen}
use Rattle.tape_routes.proofs.parameters.path_in.Goals as goal

pub returns : goal.returns
returns c =
    ap Some (c.of.ensures ∙ c.in_ok-path.ensures.ok ∙ c.in-Ok.ensures.cases.0)
    ∙ sym (chosen (is_utf8 c.args.bytes.now) (Some c.args.bytes.now) None (is_utf8-from_IsUtf8 c.args.bytes.now c.in-Ok.ensures.cases.1))

pub returns-in_default : goal.returns-in_default
returns-in_default c =
    sym (not_chosen (is_utf8 c.args.bytes.now) (Some c.args.bytes.now) None (λ yes. c.in_default.ensures.cases.0 (IsUtf8-from_is_utf8 c.args.bytes.now yes)))
