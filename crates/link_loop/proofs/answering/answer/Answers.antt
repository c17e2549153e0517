use Rattle.std.proofs.Common.{refl, subst, arith}
use Rattle.conn.specs.Cut.{Continues, Refuses}
use Rattle.turn_hall.specs.Handles.{view}
use Rattle.link_loop.specs.Served.{IsSent, link_view}
use Rattle.link_loop.proofs.Handling.{none_handled, event_handled}
use Rattle.link_loop.proofs.answering.answer.Goals as goal

pub returns-in-Need-clause-handled : goal.returns-in-Need-clause-handled
returns-in-Need-clause-handled g c =
    let s = g.F.Front.site c.args.front.now in
    let a = link_view (g.L.Link.left c.args.link.now) (g.L.Link.written c.args.link.now) (g.L.Link.read_faults c.args.link.now) (g.L.Link.write_faults c.args.link.now) in
    rw c.in-Need.is (none_handled g.F.Front.question (g.F.Front.needs s) (g.F.Front.says s) (g.T.Keeps.legal s) (g.T.Keeps.plays s) (view c.args.pass.now) a a refl (omega arith))

pub returns-in-Closed-clause-handled : goal.returns-in-Closed-clause-handled
returns-in-Closed-clause-handled g c =
    let s = g.F.Front.site c.args.front.now in
    let a = link_view (g.L.Link.left c.args.link.now) (g.L.Link.written c.args.link.now) (g.L.Link.read_faults c.args.link.now) (g.L.Link.write_faults c.args.link.now) in
    rw c.in-Closed.is (none_handled g.F.Front.question (g.F.Front.needs s) (g.F.Front.says s) (g.T.Keeps.legal s) (g.T.Keeps.plays s) (view c.args.pass.now) a a refl (omega arith))

pub returns-in-Continue-clause-handled : goal.returns-in-Continue-clause-handled
returns-in-Continue-clause-handled g c =
    let s = g.F.Front.site c.args.front.now in
    let e = c.send.ensures in
    let a = link_view (g.L.Link.left c.args.link.now) (g.L.Link.written c.args.link.now) (g.L.Link.read_faults c.args.link.now) (g.L.Link.write_faults c.args.link.now) in
    let b = link_view (g.L.Link.left c.send.new.link) (g.L.Link.written c.send.new.link) (g.L.Link.read_faults c.send.new.link) (g.L.Link.write_faults c.send.new.link) in
    rw c.in-Continue.is
    (event_handled g.F.Front.question (g.F.Front.needs s) (g.F.Front.says s) (g.T.Keeps.legal s) (g.T.Keeps.plays s) c.send.result Continues (view c.args.pass.now) a b refl
    (subst (λ t. IsSent c.send.result t a b) c.continue_text.ensures e.sent) e.later)

pub returns-in-Refused-clause-handled : goal.returns-in-Refused-clause-handled
returns-in-Refused-clause-handled g c =
    let s = g.F.Front.site c.args.front.now in
    let e = c.send_refusal.ensures in
    rw c.in-Refused.is
    (event_handled g.F.Front.question (g.F.Front.needs s) (g.F.Front.says s) (g.T.Keeps.legal s) (g.T.Keeps.plays s) c.send_refusal.result (Refuses c.in-Refused.refusal) (view c.args.pass.now)
    (link_view (g.L.Link.left c.args.link.now) (g.L.Link.written c.args.link.now) (g.L.Link.read_faults c.args.link.now) (g.L.Link.write_faults c.args.link.now))
    (link_view (g.L.Link.left c.send_refusal.new.link) (g.L.Link.written c.send_refusal.new.link) (g.L.Link.read_faults c.send_refusal.new.link) (g.L.Link.write_faults c.send_refusal.new.link)) refl e.sent e.later)

pub returns-in-Request-clause-handled : goal.returns-in-Request-clause-handled
returns-in-Request-clause-handled g c = rw c.in-Request.is c.answer_request.ensures.handled
