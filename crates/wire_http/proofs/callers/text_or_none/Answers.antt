use Rattle.std.proofs.Common.{◌≡◌, ◌∙◌, sym}
use Rattle.wire_http.specs.Callers.{text_or_none}
use Rattle.wire_http.proofs.Queries.{text_is, text_is_none}
use Rattle.wire_http.proofs.callers.text_or_none.Goals as goal

pub returns-in-Ok : goal.returns-in-Ok
returns-in-Ok c =
    let same : text_or_none c.args.bytes.now ≡ c.in-Ok.text.now = text_is c.args.bytes.now c.in-Ok.ensures.cases.1 ∙ sym c.in-Ok.ensures.cases.0 in
    rw same c.text_of.ensures

pub returns-in-Err : goal.returns-in-Err
returns-in-Err c =
    let none = text_is_none c.args.bytes.now c.in-Err.ensures.cases.0 in
    rw none c.text_of-in-Err.ensures
