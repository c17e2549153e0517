use Rattle.std.proofs.Common.{◌≡◌, ◌+◌, true, false, take, rules, sym, ap, ◌∙◌}
use Rattle.std.proofs.lemmas.List.{take_rest}
use Rattle.httparse.specs.Grammar.{trim_ows}
use Rattle.wire_http.specs.Fields.{is_word}
use Rattle.wire_http.specs.Options.{has_option}
use Rattle.wire_http.proofs.Commas.{option_at, option_last, or_true, or_false, or_of_false}
use Rattle.wire_http.proofs.options.has_option.Goals as goal

pub returns-then-is_word : goal.returns-then-is_word
returns-then-is_word c =
    let here = option_at c.args.word.now c.options.rest.now c.in-Some.comma (search rules) (search rules) (search rules) in
    let yes : is_word c.args.word.now (trim_ows (take c.in-Some.comma c.options.rest.now)) ≡ true = ap (is_word c.args.word.now) (sym c.trimmed.ensures) ∙ sym c.is_word.ensures ∙ c.if-is_word.true in
    sym (sym c.options.invariant ∙ here ∙ or_true _ _ yes)

pub options-preserved : goal.options-preserved
options-preserved c =
    let here = option_at c.args.word.now c.options.rest.now c.in-Some.comma (search rules) (search rules) (search rules) in
    let no : is_word c.args.word.now (trim_ows (take c.in-Some.comma c.options.rest.now)) ≡ false = ap (is_word c.args.word.now) (sym c.trimmed.ensures) ∙ sym c.is_word.ensures ∙ c.if-is_word.false in
    ap (has_option c.args.word.now) (take_rest c.options.rest.now (c.in-Some.comma + 1)) ∙ sym (here ∙ or_of_false _ _ no) ∙ c.options.invariant

pub returns-in-None : goal.returns-in-None
returns-in-None c =
    let here = option_last c.args.word.now c.options.rest.now (search rules) in
    c.is_word-in-None.ensures ∙ ap (is_word c.args.word.now) c.trimmed-in-None.ensures ∙ sym (sym c.options.invariant ∙ here ∙ or_false _)
