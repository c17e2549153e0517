use Rattle.replay.specs.Seen.{sink_view}
use Rattle.replay.proofs.StepWritten.{line_not_put}
use Rattle.replay.proofs.record.step_record.Goals as goal

pub returns-in-Err-put_line-clause-stepped : goal.returns-in-Err-put_line-clause-stepped
returns-in-Err-put_line-clause-stepped g c =
    let a = sink_view (g.K.Sink.written c.args.out.now) (g.K.Sink.faults c.args.out.now) in
    let b = sink_view (g.K.Sink.written c.put_line.new.out) (g.K.Sink.faults c.put_line.new.out) in
    rw c.unwritten.ensures
    (line_not_put c.args.front.now.desk.run c.step.new.self.run c.args.drive c.args.moment a b c.in-Ok.line c.in-Ok.ensures.stepped c.in-Err-put_line.why (rw c.site.ensures at c.in-Err-put_line.ensures.put))
