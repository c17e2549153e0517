use Rattle.std.proofs.Common.{◌≤◌, length, take, length-take, ap, subst, sym, arith}
use Rattle.links.specs.Standing.{StandFor}
use Rattle.replay.specs.Script.{ended}
use Rattle.replay.specs.Seen.{script_view, sink_view}
use Rattle.replay.proofs.Ending.{http_line}
use Rattle.replay.proofs.Lines.{line_stopped, line_long, line_bad, line_end, line_step, line_http}
use Rattle.replay.proofs.record.one_record.Goals as goal

pub returns-in-Stopped-clause-turns : goal.returns-in-Stopped-clause-turns
returns-in-Stopped-clause-turns g c =
    let t = c.in-Stopped.ensures.took in
    λ before stand. rw c.stopped.ensures (line_stopped c.args.front.now.desk.run before _ _ _ t.0 c.in-Stopped.why t.2 t.3 t.1 t.4)

pub returns-in-Long-clause-turns : goal.returns-in-Long-clause-turns
returns-in-Long-clause-turns g c =
    let t = c.in-Long.ensures.took in
    λ before stand. line_long c.args.front.now.desk.run before _ _ _ t.0 t.2 t.3 t.1

pub returns-in-None-clause-turns : goal.returns-in-None-clause-turns
returns-in-None-clause-turns g c =
    let t = c.in-Whole.ensures.took in
    let line = take c.in-Whole.n c.take_line.new.line in
    let fits : length line ≤ 256 = omega (arith, length-take c.in-Whole.n c.take_line.new.line) in
    λ before stand. line_bad c.args.front.now.desk.run before _ _ _ line t.1 fits (rw c.site.ensures at c.in-None.ensures) t.0

pub returns-in-Some-End-clause-turns : goal.returns-in-Some-End-clause-turns
returns-in-Some-End-clause-turns g c =
    let t = c.in-Whole.ensures.took in
    let l = rw c.in-Some-End.field-0-is at c.in-Some-End.ensures in
    λ before stand. line_end c.args.front.now.desk.run before _ _ _ (take c.in-Whole.n c.take_line.new.line) l.1 t.0

pub step_record-requires-clause-step : goal.step_record-requires-clause-step
step_record-requires-clause-step g c =
    let l = rw c.site.ensures at (rw c.in-Some-Step.field-0-is at c.in-Some-Step.ensures) in
    l.0

pub returns-in-Some-Step-clause-turns : goal.returns-in-Some-Step-clause-turns
returns-in-Some-Step-clause-turns g c =
    let t = c.in-Whole.ensures.took in
    let l = rw c.site.ensures at (rw c.in-Some-Step.field-0-is at c.in-Some-Step.ensures) in
    λ before stand.
    line_step c.args.front.now.desk.run before _ _ (take c.in-Whole.n c.take_line.new.line) c.in-Some-Step.drive c.in-Some-Step.moment l.0 l.1 t.0
    c.step_record.result c.step_record.new.front.links c.step_record.new.front.desk.run _ _ (subst (λ links. StandFor links c.args.front.now.desk.run.site.limits.file before) (sym c.step_record.ensures.links) stand)
    c.step_record.ensures.stepped

pub returns-in-Some-Http-clause-turns : goal.returns-in-Some-Http-clause-turns
returns-in-Some-Http-clause-turns g c =
    let t = c.in-Whole.ensures.took in
    let l = rw c.in-Some-Http.field-0-is at c.in-Some-Http.ensures in
    let s = script_view (g.S.Source.left c.args.script.now) c.args.taken.now (g.S.Source.faults c.args.script.now) in
    let m = script_view (g.S.Source.left c.take_line.new.script) c.take_line.new.taken (g.S.Source.faults c.take_line.new.script) in
    let out = sink_view (g.K.Sink.written c.args.out.now) (g.K.Sink.faults c.args.out.now) in
    let front = http_line c.in-Some-Http.http.link c.in-Some-Http.http.moment c.in-Some-Http.http.len in
    λ before stand.
    line_http c.http_record.result c.http_record.new.front.links c.args.front.now.desk.run _ before s m out _ front (take c.in-Whole.n c.take_line.new.line) (ap ended l.1) t.0 (omega arith)
    (c.http_record.ensures.turns before stand)
