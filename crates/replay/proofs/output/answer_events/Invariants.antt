use Rattle.std.proofs.Common.{◌≡◌, ◌≤◌, vec_len}
use Rattle.std.specs.Prelude.{reverse}
use Rattle.conn.specs.Stands.{given_by}
use Rattle.replay.specs.Seen.{sink_view}
use Rattle.replay.proofs.Writing.{AnsweredSoFar}
use Rattle.replay.proofs.output.answer_events.Given as goal

abbrev pub invariant-events : goal.invariant-events
invariant-events g l = record {
  so_far : AnsweredSoFar l.initial.desk.run l.desk.run l.link l.moment (given_by l.fn.events.items) (given_by (reverse l.events.items))
      (sink_view (g.K.Sink.written l.initial.out) (g.K.Sink.faults l.initial.out)) (sink_view (g.K.Sink.written l.out) (g.K.Sink.faults l.out));
  ready : l.desk.ready ≡ l.initial.desk.ready;
  later : g.K.Sink.faults l.initial.out ≤ g.K.Sink.faults l.out;
}

abbrev pub decreases-events : goal.decreases-events
decreases-events g l = vec_len l.events
