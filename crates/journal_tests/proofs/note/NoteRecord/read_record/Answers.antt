use Rattle.std.proofs.Common.{◌≡◌, ◌≤◌, ◌<◌, ◌^◌, ◌+◌, length, take, drop, sym, ◌∙◌, ap, rules, arith}
use Rattle.std.proofs.lemmas.Grind.{common_steps}
use Rattle.journal_tests.proofs.Notes.{whole}
use Rattle.journal_tests.proofs.note.NoteRecord.read_record.Goals as goal

pub returns : goal.returns
returns c =
    let rest = c.in-Some.rest.now in
    let n = c.in-Some.len in
    let body = c.in_ok-body.body.items in
    let is = whole c.args.bytes.now rest body n c.in-Some.ensures (first_of (search rules, grind (arith, common_steps))) (first_of (search rules, grind (arith, common_steps))) in
    (first_of (search rules, grind (arith, common_steps)), (drop n rest, is.1), omega (arith, is.0))
