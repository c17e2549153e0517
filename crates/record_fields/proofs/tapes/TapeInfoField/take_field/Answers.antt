use Rattle.std.proofs.Common.{rules}
use Rattle.record_fields.proofs.tapes.TapeInfoField.take_field.Goals as goal

pub returns-in_err-files-clause-again : goal.returns-in_err-files-clause-again
returns-in_err-files-clause-again c = λ v rest fit bytes.
    let state = c.in_ok-vid.ensures.again v.vid _ fit.0 bytes in
    let used = c.in_ok-state.ensures.again v.state _ tt state in
    let files = c.in_ok-used.ensures.again v.used _ fit.1 used in
    let none = c.in_err-files.ensures.again v.files _ fit.2 files in
    search (rules, none)

pub returns-in_err-next_fseq-clause-again : goal.returns-in_err-next_fseq-clause-again
returns-in_err-next_fseq-clause-again c = λ v rest fit bytes.
    let state = c.in_ok-vid.ensures.again v.vid _ fit.0 bytes in
    let used = c.in_ok-state.ensures.again v.state _ tt state in
    let files = c.in_ok-used.ensures.again v.used _ fit.1 used in
    let next = c.in_ok-files.ensures.again v.files _ fit.2 files in
    let none = c.in_err-next_fseq.ensures.again v.next_fseq rest fit.3 next in
    search (rules, none)
