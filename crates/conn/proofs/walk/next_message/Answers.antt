use Rattle.std.proofs.Common.{arith}
use Rattle.std.proofs.lemmas.List.{take_rest}
use Rattle.conn.proofs.Walks.{framed, ends_open_head, ends_refused, ends_open_body, ends_no_body, ends_closing, begins_message, others, others_within}
use Rattle.conn.proofs.walk.next_message.Goals as goal

pub returns-in-Need-clause-found : goal.returns-in-Need-clause-found
returns-in-Need-clause-found c = ends_open_head c.args.file_limit c.args.rest.now c.in-Need.ensures

pub returns-in-Refused-clause-found : goal.returns-in-Refused-clause-found
returns-in-Refused-clause-found c = ends_refused c.args.file_limit c.args.rest.now _ c.in-Refused.ensures

pub returns-in-Open-clause-found : goal.returns-in-Open-clause-found
returns-in-Open-clause-found c =
    let fr = framed c.args.file_limit c.args.rest.now c.in-Passes.frame c.in-Passes.ensures in
    ends_open_body c.args.file_limit c.args.rest.now _ c.in-Passes.frame fr (take_rest c.args.rest.now c.in-Passes.frame.len)
    (c.in-Open.ensures.ends c.args.file_limit fr.tree fr.begins.part (rw c.start_of.ensures fr.begins.place))

pub returns-in-Refused-body_end-clause-found : goal.returns-in-Refused-body_end-clause-found
returns-in-Refused-body_end-clause-found c =
    let fr = framed c.args.file_limit c.args.rest.now c.in-Passes.frame c.in-Passes.ensures in
    ends_no_body c.args.file_limit c.args.rest.now _ c.in-Passes.frame fr _ (take_rest c.args.rest.now c.in-Passes.frame.len)
    (c.in-Refused-body_end.ensures.ends c.args.file_limit fr.tree fr.begins.part (rw c.start_of.ensures fr.begins.place))

pub returns-then-frame-clause-found : goal.returns-then-frame-clause-found
returns-then-frame-clause-found c =
    let fr = framed c.args.file_limit c.args.rest.now c.in-Passes.frame c.in-Passes.ensures in
    ends_closing c.args.file_limit c.args.rest.now _ c.in-Passes.frame fr _ (take_rest c.args.rest.now c.in-Passes.frame.len)
    (c.in-Whole.ensures.ends c.args.file_limit fr.tree fr.begins.part (rw c.start_of.ensures fr.begins.place)) c.if-frame.true

pub returns-else-frame-clause-found : goal.returns-else-frame-clause-found
returns-else-frame-clause-found c =
    let fr = framed c.args.file_limit c.args.rest.now c.in-Passes.frame c.in-Passes.ensures in
    begins_message c.args.file_limit c.args.rest.now _ c.in-Passes.frame fr _ (take_rest c.args.rest.now c.in-Passes.frame.len)
    (c.in-Whole.ensures.ends c.args.file_limit fr.tree fr.begins.part (rw c.start_of.ensures fr.begins.place)) c.if-frame.false
    (others c.args.rest.now c.in-Passes.frame.len c.in-Whole.used)

pub returns-else-frame-clause-within : goal.returns-else-frame-clause-within
returns-else-frame-clause-within c =
    let fr = framed c.args.file_limit c.args.rest.now c.in-Passes.frame c.in-Passes.ensures in
    (others_within c.args.rest.now _ _ fr.within c.in-Whole.ensures.within, omega (arith, fr.some))
