use Rattle.std.proofs.Common.{◌≡◌, ◌∙◌, length, refl, subst, arith}
use Rattle.std.specs.Prelude.{reverse}
use Rattle.conn.specs.Stands.{given_by, next_events}
use Rattle.replay.specs.Seen.{sink_view}
use Rattle.replay.proofs.Writing.{given_next, given_none, given_all, AnsweredSoFar, none_so_far, more_so_far, not_so_far, all_answered}
use Rattle.replay.proofs.output.answer_events.Goals as goal

pub events-init : goal.events-init
events-init g c = record {
  so_far = none_so_far c.args.desk.now.run c.args.link c.args.moment (given_by c.args.events.items) _ (sink_view (g.K.Sink.written c.args.out.now) (g.K.Sink.faults c.args.out.now))
      (given_all c.args.events.items c.reverse.new.self.items c.reverse.ensures.items);
  ready = refl;
  later = omega arith;
}

pub events-preserved : goal.events-preserved
events-preserved g c =
    let h = c.events.invariant in
    let a = sink_view (g.K.Sink.written c.args.out.now) (g.K.Sink.faults c.args.out.now) in
    let m = sink_view (g.K.Sink.written c.events.out) (g.K.Sink.faults c.events.out) in
    let b = sink_view (g.K.Sink.written c.answer_event.new.out) (g.K.Sink.faults c.answer_event.new.out) in
    let next = given_next c.events.events.items c.pop.new.self.items c.in-Some.event c.in-Some.ensures.items in
    let so_far = subst (λ es. AnsweredSoFar c.args.desk.now.run c.events.desk.run c.args.link c.args.moment (given_by c.args.events.items) es a m) next h.so_far in
    record {
      so_far = more_so_far c.args.desk.now.run c.events.desk.run c.answer_event.new.desk.run c.args.link c.args.moment _ (next_events c.in-Some.event) (given_by (reverse c.pop.new.self.items))
          a m b so_far _ c.in_default-answer_event.ensures.answered;
      ready = c.in_default-answer_event.ensures.ready ∙ h.ready;
      later = omega arith;
    }

pub returns-in-Err-clause-answered : goal.returns-in-Err-clause-answered
returns-in-Err-clause-answered g c =
    let h = c.events.invariant in
    let a = sink_view (g.K.Sink.written c.args.out.now) (g.K.Sink.faults c.args.out.now) in
    let m = sink_view (g.K.Sink.written c.events.out) (g.K.Sink.faults c.events.out) in
    let b = sink_view (g.K.Sink.written c.answer_event.new.out) (g.K.Sink.faults c.answer_event.new.out) in
    let next = given_next c.events.events.items c.pop.new.self.items c.in-Some.event c.in-Some.ensures.items in
    let so_far = subst (λ es. AnsweredSoFar c.args.desk.now.run c.events.desk.run c.args.link c.args.moment (given_by c.args.events.items) es a m) next h.so_far in
    not_so_far c.args.desk.now.run c.events.desk.run c.answer_event.new.desk.run c.args.link c.args.moment _ (next_events c.in-Some.event) (given_by (reverse c.pop.new.self.items))
    a m b so_far c.in-Err.why h.later c.in-Err.ensures.answered

pub returns : goal.returns
returns g c =
    let h = c.events.invariant in
    let a = sink_view (g.K.Sink.written c.args.out.now) (g.K.Sink.faults c.args.out.now) in
    let b = sink_view (g.K.Sink.written c.events.out) (g.K.Sink.faults c.events.out) in
    let empty : length c.events.events.items ≡ 0 = omega (arith, c.events.events.ok.0, c.in_default.ensures.cases.0) in
    let so_far = subst (λ es. AnsweredSoFar c.args.desk.now.run c.events.desk.run c.args.link c.args.moment (given_by c.args.events.items) es a b)
    (given_none c.events.events.items empty) h.so_far in
    record {
      answered = all_answered _ c.args.desk.now.run c.events.desk.run c.args.link c.args.moment _ a b so_far;
      ready = h.ready;
      later = h.later;
    }
