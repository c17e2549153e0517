use Rattle.std.proofs.Common.{◌∙◌, subst, arith}
use Rattle.turn_hall.specs.Handles.{view}
use Rattle.conn.specs.Stands.{HasCompletion, limit_of}
use Rattle.link_loop.specs.declared.answering.Pause.{Pause}
use Rattle.link_loop.specs.Served.{link_view}
use Rattle.link_loop.proofs.Sessions.{session_next, session_waits, session_over, session_breaks, session_out_of_memory, firm_as}
use Rattle.link_loop.proofs.answering.answer_all.Goals as goal

pub returns-in-Ok-Need-clause-answered : goal.returns-in-Ok-Need-clause-answered
returns-in-Ok-Need-clause-answered g c = λ taken v a h.
    let s = g.F.Front.site c.args.front.now in
    let gives = rw c.in-Ok-Need.field-0-is at c.in-Ok-Need.ensures.answers in
    session_waits g.F.Front.question (g.F.Front.needs s) (g.F.Front.says s) (g.T.Keeps.legal s) (g.T.Keeps.plays s) c.events.conn c.next.new.self taken v (view c.events.pass) a (link_view (g.L.Link.left c.events.link) (g.L.Link.written c.events.link) (g.L.Link.read_faults c.events.link) (g.L.Link.write_faults c.events.link)) c.next.ensures.limit gives (c.events.invariant.session taken v a h)

pub returns-in-Ok-Closed-clause-answered : goal.returns-in-Ok-Closed-clause-answered
returns-in-Ok-Closed-clause-answered g c = λ taken v a h.
    let s = g.F.Front.site c.args.front.now in
    let gives = rw c.in-Ok-Closed.field-0-is at c.in-Ok-Closed.ensures.answers in
    session_over g.F.Front.question (g.F.Front.needs s) (g.F.Front.says s) (g.T.Keeps.legal s) (g.T.Keeps.plays s) c.events.conn c.next.new.self taken v (view c.events.pass) a (link_view (g.L.Link.left c.events.link) (g.L.Link.written c.events.link) (g.L.Link.read_faults c.events.link) (g.L.Link.write_faults c.events.link)) c.next.ensures.limit gives (c.events.invariant.session taken v a h)

pub returns-in-Err-answer : goal.returns-in-Err-answer
returns-in-Err-answer g c =
    let s = g.F.Front.site c.args.front.now in
    let i = c.events.invariant in
    let e = c.in-Err-answer.ensures in
    let limit = c.next.ensures.limit ∙ i.limit in
    record {
      here = e.here;
      seats = e.seats ∙ i.seats;
      answered = λ taken v a h.
          session_breaks g.F.Front.question (g.F.Front.needs s) (g.F.Front.says s) (g.T.Keeps.legal s) (g.T.Keeps.plays s) c.in-Err-answer.why c.events.conn c.next.new.self c.in-Ok.event (limit_of c.args.conn.now) taken v (view c.events.pass) (view c.answer.new.pass) a (link_view (g.L.Link.left c.events.link) (g.L.Link.written c.events.link) (g.L.Link.read_faults c.events.link) (g.L.Link.write_faults c.events.link)) (link_view (g.L.Link.left c.answer.new.link) (g.L.Link.written c.answer.new.link) (g.L.Link.read_faults c.answer.new.link) (g.L.Link.write_faults c.answer.new.link))
          i.limit c.in-Ok.ensures.answers e.other.0 (λ fed given st. subst (λ k. HasCompletion k fed given) limit (c.has_completion.ensures fed given st)) (i.session taken v a h) e.handled;
      limit = limit;
      reads = e.other.1 ∙ i.reads;
      firm = (e.firm.0 ∙ i.firm, λ f. firm_as (Unit {0}) Pause c.in-Err-answer.why (e.firm.1 (i.firm ∙ f)));
    }

pub events-preserved : goal.events-preserved
events-preserved g c =
    let s = g.F.Front.site c.args.front.now in
    let i = c.events.invariant in
    let e = c.in_default.ensures in
    record {
      here = e.here;
      seats = e.seats ∙ i.seats;
      session = λ taken v a h. session_next g.F.Front.question (g.F.Front.needs s) (g.F.Front.says s) (g.T.Keeps.legal s) (g.T.Keeps.plays s) c.events.conn c.next.new.self c.in-Ok.event taken v (view c.events.pass) (view c.answer.new.pass) a (link_view (g.L.Link.left c.events.link) (g.L.Link.written c.events.link) (g.L.Link.read_faults c.events.link) (g.L.Link.write_faults c.events.link)) (link_view (g.L.Link.left c.answer.new.link) (g.L.Link.written c.answer.new.link) (g.L.Link.read_faults c.answer.new.link) (g.L.Link.write_faults c.answer.new.link)) c.next.ensures.limit c.in-Ok.ensures.answers e.other.0 (i.session taken v a h) e.handled;
      limit = c.next.ensures.limit ∙ i.limit;
      reads = e.other.1 ∙ i.reads;
      buffer = omega (arith, c.answer.auto.buffer, i.buffer);
      firm = e.firm.0 ∙ i.firm;
    }

pub returns-in-Err-clause-answered : goal.returns-in-Err-clause-answered
returns-in-Err-clause-answered g c = λ taken v a h.
    let s = g.F.Front.site c.args.front.now in
    let i = c.events.invariant in
    session_out_of_memory g.F.Front.question (g.F.Front.needs s) (g.F.Front.says s) (g.T.Keeps.legal s) (g.T.Keeps.plays s) c.events.conn c.next.new.self (limit_of c.args.conn.now) taken v (view c.events.pass) a (link_view (g.L.Link.left c.events.link) (g.L.Link.written c.events.link) (g.L.Link.read_faults c.events.link) (g.L.Link.write_faults c.events.link)) i.limit c.in-Err.ensures.answers
    (λ fed given st. subst (λ k. HasCompletion k fed given) (c.next.ensures.limit ∙ i.limit) (c.has_completion-in-Err.ensures fed given st)) (i.session taken v a h)
