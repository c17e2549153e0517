use Rattle.std.proofs.Common.{rules, ◌≡◌, ◌∙◌, ap}
use Rattle.record_fields.specs.Numbers.{number, long_number}
use Rattle.record_fields.specs.Texts.{text}
use Rattle.record_fields.specs.Choices.{direction_before}
use Rattle.record_fields.proofs.tapes.QueueInfoField.take_field.Goals as goal

pub returns-in_err-oldest-clause-again : goal.returns-in_err-oldest-clause-again
returns-in_err-oldest-clause-again c = λ v rest fit bytes.
    let key = c.in_ok-direction.ensures.again v.direction _ tt bytes in
    let files = c.in_ok-key.ensures.again v.key _ fit.0 key in
    let count = c.in_ok-files.ensures.again v.files _ fit.1 files in
    let oldest = c.in_ok-bytes.ensures.again v.bytes _ fit.2 count in
    let none = c.in_err-oldest.ensures.again v.oldest rest fit.3 oldest in
    search (rules, none)

pub returns-clause-right : goal.returns-clause-right
returns-clause-right c =
    let oldest = c.in_ok-oldest.ensures.right in
    let count = c.in_ok-bytes.ensures.right in
    let files = c.in_ok-files.ensures.right in
    let key = c.in_ok-key.ensures.right in
    let way = c.in_ok-direction.ensures.right in
    let from_count = count.1 ∙ ap (λ rest. long_number c.in_ok-bytes.bytes rest) oldest.1 in
    let from_files = files.1 ∙ ap (λ rest. number c.in_ok-files.files rest) from_count in
    let from_key = key.1 ∙ ap (λ rest. text c.in_ok-key.key rest) from_files in
    ((key.0, files.0, count.0, oldest.0), way.1 ∙ ap (λ rest. direction_before c.in_ok-direction.direction rest) from_key)
