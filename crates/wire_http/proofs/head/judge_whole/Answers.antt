use Rattle.std.proofs.Common.{sym, ap, ◌∙◌}
use Rattle.wire_http.specs.Rules.{before_query}
use Rattle.wire_http.proofs.Heads.{lengths_of_none, frame_of}
use Rattle.wire_http.proofs.head.judge_whole.Goals as goal

pub body_len-requires-clause-lengths : goal.body_len-requires-clause-lengths
body_len-requires-clause-lengths c = lengths_of_none c.args.limit c.of-method.result.now c.before_query-target.result.now c.args.spans.version _ (sym c.first_broken.ensures ∙ c.in_default.is)

pub is_expecting-requires-clause-lengths : goal.is_expecting-requires-clause-lengths
is_expecting-requires-clause-lengths c = lengths_of_none c.args.limit c.of-method.result.now c.before_query-target.result.now c.args.spans.version _ (sym c.first_broken.ensures ∙ c.in_default.is)

pub returns : goal.returns
returns c = λ h at.
    frame_of c.args.limit c.of-method.result.now c.before_query-target.result.now c.args.spans.version _ h _ (c.of-method.ensures ∙ at.method)
    (c.before_query-target.ensures ∙ ap before_query (c.of.ensures ∙ at.path)) at.version at.fields (sym c.first_broken.ensures ∙ c.in_default.is)
    c.body_len.ensures c.longest_body.ensures c.is_expecting.ensures c.is_closing.ensures at.len
