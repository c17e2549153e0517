use Rattle.std.proofs.Common.{rules, refl}
use Rattle.cta_records.proofs.Firsts.{who_and_number}
use Rattle.cta_records.proofs.asks.take_reclaim.Goals as goal

pub returns-in_err-tape-clause-again : goal.returns-in_err-tape-clause-again
returns-in_err-tape-clause-again c = λ v rest fit bytes.
    let found = who_and_number v 15 c.args.bytes.now rest fit bytes refl in
    let here = c.in_ok-who.ensures.again found.0 _ found.3 found.5 in
    let none = c.in_err-tape.ensures.again found.1 found.2 found.4 here in
    search (rules, none)
