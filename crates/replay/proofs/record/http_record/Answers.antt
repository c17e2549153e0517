use Rattle.replay.specs.Seen.{script_view, sink_view, world}
use Rattle.replay.proofs.Ending.{short_stopped, short_unwritten, last_lf_len}
use Rattle.replay.proofs.record.http_record.Goals as goal

pub returns-in-All-clause-turns : goal.returns-in-All-clause-turns
returns-in-All-clause-turns g c = λ before h.
    let d = c.in-All.ensures.delivers before h in
    let out = sink_view (g.K.Sink.written c.feed_record.new.out) (g.K.Sink.faults c.feed_record.new.out) in
    let a = world (script_view (g.S.Source.left c.args.script.now) c.args.taken.now (g.S.Source.faults c.args.script.now)) (sink_view (g.K.Sink.written c.args.out.now) (g.K.Sink.faults c.args.out.now)) in
    let m = world (script_view (g.S.Source.left c.feed_record.new.script) c.feed_record.new.taken (g.S.Source.faults c.feed_record.new.script)) out in
    let b = world (script_view (g.S.Source.left c.last_lf.new.script) c.last_lf.new.taken (g.S.Source.faults c.last_lf.new.script)) out in
    last_lf_len c.runs_follow.ensures c.args.front.now.desk.run before c.args.line.link c.args.line.moment d.bytes d.exchanges d.run c.last_lf.result c.feed_record.new.front.links c.feed_record.new.front.desk.run a m b c.args.line.len d.answered.0 c.requires.http c.requires.begun
    d.took d.answered.1 d.stands d.keeps c.in-All.ensures.later.0 c.last_lf.ensures.lf

pub returns-in-Part-clause-turns : goal.returns-in-Part-clause-turns
returns-in-Part-clause-turns g c = λ before h.
    let d = c.in-Part.ensures.delivers before h in
    rw c.stopped.ensures
    (short_stopped c.runs_follow.ensures c.args.front.now.desk.run before c.args.line.link c.args.line.moment d.bytes d.exchanges d.run _ _ c.args.line.len c.in-Part.why c.requires.http d.fits d.took d.answered.0 d.answered.1)

pub returns-in-Unanswered-clause-turns : goal.returns-in-Unanswered-clause-turns
returns-in-Unanswered-clause-turns g c = λ before h.
    let d = c.in-Unanswered.ensures.delivers before h in
    rw c.unwritten.ensures
    (short_unwritten c.runs_follow.ensures c.args.front.now.desk.run before c.args.line.link c.args.line.moment d.bytes d.exchanges d.run _ _ c.args.line.len c.in-Unanswered.why c.requires.http d.fits d.took d.answered)
