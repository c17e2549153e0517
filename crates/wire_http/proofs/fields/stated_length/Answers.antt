use Rattle.std.proofs.Common.{codes, ap, sym, ◌∙◌}
use Rattle.std.specs.List.{list_all}
use Rattle.std.specs.Str.Parse.{digits_value}
use Rattle.wire_http.specs.Fields.{number, is_length, is_word}
use Rattle.wire_http.proofs.Values.{values_here, values_past}
use Rattle.wire_http.proofs.Digits.{both}
use Rattle.wire_http.proofs.fields.stated_length.Goals as goal

pub number_at-requires : goal.number_at-requires
number_at-requires c =
    let named = sym (c.is_word.ensures ∙ ap (is_word (codes "content-length")) c.of.ensures) ∙ c.if-is_word.true in
    let here = values_here (codes "content-length") c.args.buf.now c.args.headers.now c.loop-header.header-index _ c.loop-header-test.true named in
    ap is_length c.of-then-is_word.ensures ∙ (both _ _ (sym (ap (list_all is_length) here) ∙ c.loop-header.invariant.each)).0

pub returns-then-is_word : goal.returns-then-is_word
returns-then-is_word c =
    let named = sym (c.is_word.ensures ∙ ap (is_word (codes "content-length")) c.of.ensures) ∙ c.if-is_word.true in
    let here = values_here (codes "content-length") c.args.buf.now c.args.headers.now c.loop-header.header-index _ c.loop-header-test.true named in
    c.number_at.ensures ∙ ap (digits_value 10) c.of-then-is_word.ensures ∙ sym (ap number here) ∙ c.loop-header.invariant.same

pub loop-header-preserved : goal.loop-header-preserved
loop-header-preserved c =
    let other = sym (c.is_word.ensures ∙ ap (is_word (codes "content-length")) c.of.ensures) ∙ c.if-is_word.false in
    let past = values_past (codes "content-length") c.args.buf.now c.args.headers.now c.loop-header.header-index _ c.loop-header-test.true other in
    record {
      same = sym (ap number past) ∙ c.loop-header.invariant.same;
      each = sym (ap (list_all is_length) past) ∙ c.loop-header.invariant.each;
    }
