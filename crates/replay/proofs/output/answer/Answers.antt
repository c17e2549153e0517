use Rattle.std.proofs.Common.{◌∷◌, [], ◌∙◌, subst}
use Rattle.conn.specs.Cut.{Requests}
use Rattle.replay.specs.Seen.{sink_view}
use Rattle.replay.specs.RecordTurns.{IsFramed}
use Rattle.replay.proofs.RequestReplies.{on_ok}
use Rattle.replay.proofs.Writing.{answers_one, answers_wanting}
use Rattle.replay.proofs.output.answer.Goals as goal

pub returns-in-Ok-clause-answered : goal.returns-in-Ok-clause-answered
returns-in-Ok-clause-answered g c =
    let a = sink_view (g.K.Sink.written c.args.out.now) (g.K.Sink.faults c.args.out.now) in
    let b = sink_view (g.K.Sink.written c.put_reply.new.out) (g.K.Sink.faults c.put_reply.new.out) in
    let x = c.in-Ok.ensures.text in
    let framed = subst (λ t. IsFramed c.put_reply.result a b (record { link = c.args.link; text = t })) (c.deref.ensures.value ∙ x.is_text) c.put_reply.ensures.framed in
    answers_one c.put_reply.result c.args.desk.now.run c.answer.new.self.run c.args.link c.args.moment (Requests c.args.request) x.content a b x.fits framed
    (on_ok c.put_reply.result c.in-Ok.ensures.kept)

pub returns-in-Err-clause-answered : goal.returns-in-Err-clause-answered
returns-in-Err-clause-answered g c =
    answers_wanting c.args.desk.now.run c.answer.new.self.run c.args.link c.args.moment (Requests c.args.request ∷ [])
    (sink_view (g.K.Sink.written c.args.out.now) (g.K.Sink.faults c.args.out.now))
