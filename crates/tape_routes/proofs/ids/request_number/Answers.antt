use Rattle.std.proofs.Common.{◌∙◌, sym, ap}
use Rattle.std.proofs.lemmas.Str.{IsUtf8-from_is_utf8, is_utf8-from_IsUtf8}
use Rattle.std.specs.Str.{is_utf8}
use Rattle.uuid.specs.Text.{parsed}
use Rattle.tape_routes.specs.Parameters.{number_of_id}
use Rattle.tape_routes.proofs.Choices.{chosen, not_chosen}
use Rattle.tape_routes.proofs.ids.request_number.Goals as goal

pub returns-in-Ok : goal.returns-in-Ok
returns-in-Ok c =
    c.id_number.ensures ∙ ap (λ t. number_of_id (parsed t)) c.in-Ok.ensures.cases.0
    ∙ sym (chosen (is_utf8 c.args.text.now) (number_of_id (parsed c.args.text.now)) 0 (is_utf8-from_IsUtf8 c.args.text.now c.in-Ok.ensures.cases.1))

pub returns-in-Err : goal.returns-in-Err
returns-in-Err c =
    sym (not_chosen (is_utf8 c.args.text.now) (number_of_id (parsed c.args.text.now)) 0 (λ yes. c.in-Err.ensures.cases.0 (IsUtf8-from_is_utf8 c.args.text.now yes)))
