use Rattle.std.proofs.Common.{◌≡◌, ◌≤◌, ◌-◌, true}
use Rattle.replay.specs.Intake.{budget}
use Rattle.replay.specs.Seen.{script_view, sink_view, world}
use Rattle.replay.proofs.Running.{Ran}
use Rattle.replay.proofs.run.run_records.Given as goal

abbrev pub invariant-records : goal.invariant-records
invariant-records g l = record {
  ran : Ran l.front.links l.initial.front.desk.run l.front.desk.run
      (world (script_view (g.S.Source.left l.initial.script) 0 (g.S.Source.faults l.initial.script)) (sink_view (g.K.Sink.written l.initial.out) (g.K.Sink.faults l.initial.out)))
      (world (script_view (g.S.Source.left l.script) l.taken (g.S.Source.faults l.script)) (sink_view (g.K.Sink.written l.out) (g.K.Sink.faults l.out)));
  ready : l.front.desk.ready ≡ true;
  reads : g.S.Source.faults l.initial.script ≤ g.S.Source.faults l.script;
  writes : g.K.Sink.faults l.initial.out ≤ g.K.Sink.faults l.out;
  within : l.taken ≤ budget;
}

abbrev pub decreases-records : goal.decreases-records
decreases-records g l = budget - l.taken
