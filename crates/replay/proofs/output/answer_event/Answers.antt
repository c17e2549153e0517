use Rattle.std.proofs.Common.{None, refl, subst}
use Rattle.conn.specs.Cut.{Continues, Refuses}
use Rattle.replay.specs.Seen.{sink_view}
use Rattle.replay.specs.RecordTurns.{IsFramed}
use Rattle.replay.proofs.RequestReplies.{on_ok}
use Rattle.replay.proofs.Writing.{answers_none, answers_one}
use Rattle.replay.proofs.output.answer_event.Goals as goal

pub returns-in-Need-clause-answered : goal.returns-in-Need-clause-answered
returns-in-Need-clause-answered g c = rw c.in-Need.is (answers_none _ c.args.desk.now.run c.args.link c.args.moment (sink_view (g.K.Sink.written c.args.out.now) (g.K.Sink.faults c.args.out.now)))

pub returns-in-Closed-clause-answered : goal.returns-in-Closed-clause-answered
returns-in-Closed-clause-answered g c = rw c.in-Closed.is (answers_none _ c.args.desk.now.run c.args.link c.args.moment (sink_view (g.K.Sink.written c.args.out.now) (g.K.Sink.faults c.args.out.now)))

pub returns-in-Continue-clause-answered : goal.returns-in-Continue-clause-answered
returns-in-Continue-clause-answered g c =
    let a = sink_view (g.K.Sink.written c.args.out.now) (g.K.Sink.faults c.args.out.now) in
    let b = sink_view (g.K.Sink.written c.put_reply.new.out) (g.K.Sink.faults c.put_reply.new.out) in
    let framed = subst (λ t. IsFramed c.put_reply.result a b (record { link = c.args.link; text = t })) c.continue_text.ensures c.put_reply.ensures.framed in
    rw c.in-Continue.is
    (answers_one c.put_reply.result c.args.desk.now.run c.args.desk.now.run c.args.link c.args.moment Continues None a b refl framed (on_ok c.put_reply.result refl))

pub returns-in-Refused-clause-answered : goal.returns-in-Refused-clause-answered
returns-in-Refused-clause-answered g c =
    rw c.in-Refused.is
    (answers_one c.refuse.result c.args.desk.now.run c.args.desk.now.run c.args.link c.args.moment (Refuses c.in-Refused.refusal) None
    (sink_view (g.K.Sink.written c.args.out.now) (g.K.Sink.faults c.args.out.now))
    (sink_view (g.K.Sink.written c.refuse.new.out) (g.K.Sink.faults c.refuse.new.out)) refl c.refuse.ensures.framed (on_ok c.refuse.result refl))

pub returns-in-Request-clause-answered : goal.returns-in-Request-clause-answered
returns-in-Request-clause-answered g c = rw c.in-Request.is c.answer.ensures.answered
