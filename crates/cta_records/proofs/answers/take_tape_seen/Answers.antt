use Rattle.std.proofs.Common.{rules}
use Rattle.cta_records.proofs.Firsts.{tape_in}
use Rattle.cta_records.proofs.answers.take_tape_seen.Goals as goal

pub returns-in_err-info-clause-again : goal.returns-in_err-info-clause-again
returns-in_err-info-clause-again c = λ v rest fit bytes.
    let found = tape_in v c.args.bytes.now rest fit bytes in
    let none = c.in_err-info.ensures.again found.0 rest found.1 found.2 in
    search (rules, none)

pub returns-clause-again : goal.returns-clause-again
returns-clause-again c = λ v rest fit bytes.
    let found = tape_in v c.args.bytes.now rest fit bytes in
    c.in_ok-info.ensures.again found.0 rest found.1 found.2
