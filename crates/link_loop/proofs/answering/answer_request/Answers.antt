use Rattle.std.proofs.Common.{◌≡◌, refl, sym, ap, ◌∙◌, arith}
use Rattle.conn.specs.Cut.{Requests}
use Rattle.turn_hall.specs.Handles.{view}
use Rattle.link_loop.specs.declared.front.Routed.TheVariants as routed
use Rattle.link_loop.specs.Fronts.{routed_as}
use Rattle.link_loop.specs.Served.{link_view}
use Rattle.link_loop.proofs.Handling.{none_out_of_memory, reply_handled}
use Rattle.link_loop.proofs.answering.answer_request.Goals as goal

pub returns-in-Err-clause-handled : goal.returns-in-Err-clause-handled
returns-in-Err-clause-handled g c =
    let s = g.F.Front.site c.args.front.now in
    let a = link_view (g.L.Link.left c.args.link.now) (g.L.Link.written c.args.link.now) (g.L.Link.read_faults c.args.link.now) (g.L.Link.write_faults c.args.link.now) in
    none_out_of_memory g.F.Front.question (g.F.Front.needs s) (g.F.Front.says s) (g.T.Keeps.legal s) (g.T.Keeps.plays s) (Requests c.args.request) (view c.args.pass.now) a a refl (omega arith)

pub returns-in-Reply-clause-handled : goal.returns-in-Reply-clause-handled
returns-in-Reply-clause-handled g c =
    let s = g.F.Front.site c.args.front.now in
    let e = c.send_reply.ensures in
    let needed : g.F.Front.needs s c.args.request ≡ routed.Reply c.in-Reply.reply = sym c.in-Ok.ensures.routed ∙ ap (routed_as g.F.Front.question) c.in-Reply.is in
    reply_handled g.F.Front.question (g.F.Front.needs s) (g.F.Front.says s) (g.T.Keeps.legal s) (g.T.Keeps.plays s) c.send_reply.result c.args.request c.in-Reply.reply (view c.args.pass.now)
    (link_view (g.L.Link.left c.args.link.now) (g.L.Link.written c.args.link.now) (g.L.Link.read_faults c.args.link.now) (g.L.Link.write_faults c.args.link.now))
    (link_view (g.L.Link.left c.send_reply.new.link) (g.L.Link.written c.send_reply.new.link) (g.L.Link.read_faults c.send_reply.new.link) (g.L.Link.write_faults c.send_reply.new.link)) needed e.sent e.later

pub returns-in-Call-clause-handled : goal.returns-in-Call-clause-handled
returns-in-Call-clause-handled g c =
    let needed : g.F.Front.needs (g.F.Front.site c.args.front.now) c.args.request ≡ routed.Call (g.F.Front.question c.in-Call.call) = sym c.in-Ok.ensures.routed ∙ ap (routed_as g.F.Front.question) c.in-Call.is in
    c.answer_call.ensures.handled c.args.request refl needed
