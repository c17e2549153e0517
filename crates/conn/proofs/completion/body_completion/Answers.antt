use Rattle.std.proofs.lemmas.List.{take_rest}
use Rattle.conn.proofs.Completions.{open_completion, fails_completion, closing_completion, whole_completion}
use Rattle.conn.proofs.completion.body_completion.Goals as goal

pub returns-in-Open : goal.returns-in-Open
returns-in-Open c = λ fed given s.
    open_completion c.args.limit c.args.body.now c.args.rest.now fed given s (c.in-Open.ensures.ends c.args.limit s.head s.part s.in_body.place)

pub returns-in-Refused : goal.returns-in-Refused
returns-in-Refused c = λ fed given s.
    fails_completion c.args.limit c.args.body.now c.args.rest.now fed given c.in-Refused.field-0 s (c.in-Refused.ensures.ends c.args.limit s.head s.part s.in_body.place)

pub returns-then-not-body : goal.returns-then-not-body
returns-then-not-body c = λ fed given s.
    let rest = c.args.rest.now in
    let used = c.in-Whole.used in
    whole_completion c.args.limit c.args.body.now rest _ used fed given s (c.in-Whole.ensures.ends c.args.limit s.head s.part s.in_body.place) c.if-not-body.true
    (take_rest rest used) c.has_cut.ensures

pub returns-else-not-body : goal.returns-else-not-body
returns-else-not-body c = λ fed given s.
    closing_completion c.args.limit c.args.body.now c.args.rest.now c.in-Whole.used fed given s (c.in-Whole.ensures.ends c.args.limit s.head s.part s.in_body.place) c.if-not-body.false
