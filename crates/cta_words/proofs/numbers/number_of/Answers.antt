use Rattle.std.proofs.Common.{◌≡◌, Ok, false, sym, subst}
use Rattle.std.specs.Prelude.{IsTrue}
use Rattle.cta_words.specs.Numbers.{IsBare}
use Rattle.cta_words.proofs.Spelled.{bare_from_spelled, read_from_spelled, spelled_from_read}
use Rattle.cta_words.proofs.numbers.number_of.Goals as goal

pub returns-then-not-is_bare : goal.returns-then-not-is_bare
returns-then-not-is_bare c = λ n small e.
    let bare : IsBare c.as_bytes.result.now = subst IsBare (sym c.as_bytes.ensures.value) (bare_from_spelled n c.args.text.now small e) in
    let no : IsTrue false = c.if-not-is_bare.ensures.1 bare in
    cc

pub returns-in-Ok : goal.returns-in-Ok
returns-in-Ok c =
    let bare : IsBare c.as_bytes.result.now = c.is_bare.ensures.0 (search c.if-not-is_bare.false) in
    spelled_from_read c.in-Ok.n c.args.text.now c.parse.result (subst IsBare c.as_bytes.ensures.value bare) c.parse.ensures.value.0 c.in-Ok.is

pub returns-in-Err : goal.returns-in-Err
returns-in-Err c = λ n small e.
    let same : c.parse.result ≡ Ok n = read_from_spelled n c.args.text.now c.parse.result small e c.parse.ensures.value.0 in
    cc
