use Rattle.std.proofs.Common.{◌≡◌, Ok, false, arith}
use Rattle.std.specs.Prelude.{IsTrue}
use Rattle.file_media.specs.Names.{IsPlain}
use Rattle.file_media.proofs.Numbers.{plain_from_spelled, utf8_from_spelled, read_from_spelled, spelled_from_read}
use Rattle.file_media.proofs.names.number_of.Goals as goal

pub returns-then-not-is_plain : goal.returns-then-not-is_plain
returns-then-not-is_plain c = λ n small e.
    let no : IsTrue false = c.if-not-is_plain.ensures.1 (plain_from_spelled n c.args.bytes.now (omega arith) e) in
    cc

pub returns-in-Err : goal.returns-in-Err
returns-in-Err c = λ n small e. c.in-Err.ensures.cases.0 (utf8_from_spelled n c.args.bytes.now (omega arith) e)

pub returns-in-Ok-parse : goal.returns-in-Ok-parse
returns-in-Ok-parse c =
    let plain : IsPlain c.args.bytes.now = c.is_plain.ensures.0 (search c.if-not-is_plain.false) in
    let h = rw c.in-Ok.ensures.cases.0 at c.parse.ensures.value.0 in
    (omega arith, spelled_from_read c.in-Ok-parse.n c.args.bytes.now c.parse.result plain h c.in-Ok-parse.is)

pub returns-in-Err-parse : goal.returns-in-Err-parse
returns-in-Err-parse c = λ n small e.
    let h = rw c.in-Ok.ensures.cases.0 at c.parse.ensures.value.0 in
    let same : c.parse.result ≡ Ok n = read_from_spelled n c.args.bytes.now c.parse.result (omega arith) e h in
    cc
