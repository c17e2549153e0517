use Rattle.std.proofs.Common.{◌≡◌, ◌≤◌, List}
use Rattle.links.specs.Run.{Turn}
use Rattle.links.specs.Standing.{StandFor}
use Rattle.replay.specs.Intake.{budget}
use Rattle.replay.specs.Seen.{script_view, sink_view, world}
use Rattle.replay.proofs.Delivering.{Going}
use Rattle.replay.proofs.feeding.feed_record.Given as goal

abbrev pub invariant-loop-wanted : goal.invariant-loop-wanted
invariant-loop-wanted g l = record {
  going : (before : List Turn) → StandFor l.initial.front.links l.initial.front.desk.run.site.limits.file before
      → Going l.front.links l.initial.front.desk.run l.front.desk.run before l.line.link l.line.moment l.wanted l.line.len
      (world (script_view (g.S.Source.left l.initial.script) l.initial.taken (g.S.Source.faults l.initial.script)) (sink_view (g.K.Sink.written l.initial.out) (g.K.Sink.faults l.initial.out)))
      (world (script_view (g.S.Source.left l.script) l.taken (g.S.Source.faults l.script)) (sink_view (g.K.Sink.written l.out) (g.K.Sink.faults l.out)));
  ready : l.front.desk.ready ≡ l.initial.front.desk.ready;
  reads : g.S.Source.faults l.initial.script ≤ g.S.Source.faults l.script;
  writes : g.K.Sink.faults l.initial.out ≤ g.K.Sink.faults l.out;
  within : l.taken ≤ budget;
}

abbrev pub decreases-loop-wanted : goal.decreases-loop-wanted
decreases-loop-wanted g l = l.wanted
