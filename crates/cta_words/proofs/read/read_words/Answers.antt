use Rattle.std.proofs.Common.{map, string_bytes}
use Rattle.std.proofs.lemmas.List.Elements.{All-map}
use Rattle.clap.specs.Words.{app_of}
use Rattle.cta_words.specs.Words.{IsPlainWord}
use Rattle.cta_words.proofs.Answered.{each_plain, error_explains, found_spells}
use Rattle.cta_words.proofs.read.read_words.Goals as goal

pub returns-then-not-are_plain : goal.returns-then-not-are_plain
returns-then-not-are_plain c = λ form spells.
    let plain = c.are_plain.ensures.1 (each_plain c.args.words.now spells.1) in
    cc

pub returns-in-Ok : goal.returns-in-Ok
returns-in-Ok c =
    let words = map string_bytes c.args.words.now in
    let plain = All-map IsPlainWord string_bytes c.args.words.now (c.are_plain.ensures.0 c.if-not-are_plain.false) in
    let parsed = c.in-Ok.ensures in
    found_spells words (app_of c.in_ok-command.command) c.form_of.result c.in-Ok.matches c.ok_or.result (c.in_ok-command.ensures) plain parsed.kinds parsed.matches c.form_of.ensures c.ok_or.ensures.value

pub returns-in-Err : goal.returns-in-Err
returns-in-Err c =
    let words = map string_bytes c.args.words.now in
    error_explains words (app_of c.in_ok-command.command) c.reason_of.result c.in-Err.error (c.in_ok-command.ensures) c.in-Err.ensures.kinds c.reason_of.ensures
