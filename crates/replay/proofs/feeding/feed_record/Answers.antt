use Rattle.std.proofs.Common.{◌≡◌, ◌≤◌, ◌-◌, ◌++◌, ◌∙◌, ℕ, ap, refl, length, take, drop, sym, subst, arith, length-take}
use Rattle.std.proofs.lemmas.List.{take-append-le}
use Rattle.replay.specs.Intake.{Took}
use Rattle.replay.specs.Run.{events_of}
use Rattle.replay.specs.Seen.{script_view, sink_view, world}
use Rattle.replay.specs.declared.intake.Stop.TheVariants.{Memory}
use Rattle.replay.proofs.Taking.{Took-none}
use Rattle.replay.proofs.Delivering.{Going, going_none, going_roomy, going_on, stopped_since, delivers_part, delivers_unanswered}
use Rattle.replay.proofs.feeding.feed_record.Goals as goal

pub loop-wanted-init : goal.loop-wanted-init
loop-wanted-init g c = record {
  going = λ before h. going_none c.args.front.now.links c.args.front.now.desk.run before c.args.line.link c.args.line.moment c.args.line.len _ (c.begins_empty.ensures c.args.front.now.links c.args.front.now.desk.run.site.limits.file before c.args.line.link c.args.line.moment h);
  ready = refl;
  reads = omega arith;
  writes = omega arith;
  within = omega arith;
}

pub returns-in_default-clause-delivers : goal.returns-in_default-clause-delivers
returns-in_default-clause-delivers g c = λ before h.
    let s = going_roomy c.loop-wanted.front.links c.reserve.new.self _ _ before c.args.line.link c.args.line.moment _ c.args.line.len _ _ c.reserve.ensures.stands (c.loop-wanted.invariant.going before h) in
    delivers_part c.reserve.new.self _ _ before c.args.line.link c.args.line.moment _ c.args.line.len _ _ s Memory (script_view (g.S.Source.left c.loop-wanted.script) c.loop-wanted.taken (g.S.Source.faults c.loop-wanted.script))
    (Took-none (script_view (g.S.Source.left c.loop-wanted.script) c.loop-wanted.taken (g.S.Source.faults c.loop-wanted.script))) tt

pub returns-in-Err-clause-delivers : goal.returns-in-Err-clause-delivers
returns-in-Err-clause-delivers g c = λ before h.
    let s = going_roomy c.loop-wanted.front.links c.reserve.new.self _ _ before c.args.line.link c.args.line.moment _ c.args.line.len _ _ c.in-Ok.ensures.stands (c.loop-wanted.invariant.going before h) in
    delivers_part c.reserve.new.self _ _ before c.args.line.link c.args.line.moment _ c.args.line.len _ _ s c.in-Err.why (script_view (g.S.Source.left c.take_piece.new.script) c.take_piece.new.taken (g.S.Source.faults c.take_piece.new.script))
    c.in-Err.ensures.took (stopped_since c.in-Err.why _ _ _ c.loop-wanted.invariant.reads c.in-Err.ensures.stopped)

-- the piece stands at the front of the buffer
pub returns-in-Err-feed_piece-clause-delivers : goal.returns-in-Err-feed_piece-clause-delivers
returns-in-Err-feed_piece-clause-delivers g c = λ before h.
    let s = going_roomy c.loop-wanted.front.links c.reserve.new.self _ _ before c.args.line.link c.args.line.moment _ c.args.line.len _ _ c.in-Ok.ensures.stands (c.loop-wanted.invariant.going before h) in
    let f = c.in-Err-feed_piece.ensures.feeds c.args.front.now.desk.run.site.limits.file before s.bytes (events_of s.exchanges) s.stands in
    let count = c.in-Ok-take_piece.count in
    let piece = c.take_piece.new.piece in
    let t = c.in-Ok-take_piece.ensures.took in
    let front = take-append-le count piece (drop c.min-most.result c.loop-wanted.buffer) t.2 in
    let took = subst (Took (script_view (g.S.Source.left c.loop-wanted.script) c.loop-wanted.taken (g.S.Source.faults c.loop-wanted.script)) (script_view (g.S.Source.left c.take_piece.new.script) c.take_piece.new.taken (g.S.Source.faults c.take_piece.new.script))) (sym front) t.0 in
    let fits : length (take count (piece ++ drop c.min-most.result c.loop-wanted.buffer)) ≤ c.loop-wanted.wanted =
    omega (arith, t.2, c.take_piece.auto.piece, length-take count (piece ++ drop c.min-most.result c.loop-wanted.buffer), length-take c.min-most.result c.loop-wanted.buffer) in
    delivers_unanswered c.reserve.new.self _ c.loop-wanted.front.desk.run before c.args.line.link c.args.line.moment c.loop-wanted.wanted c.args.line.len _ _ s c.feed_piece.new.front.links c.feed_piece.new.front.desk.run (take count (piece ++ drop c.min-most.result c.loop-wanted.buffer))
    (script_view (g.S.Source.left c.take_piece.new.script) c.take_piece.new.taken (g.S.Source.faults c.take_piece.new.script)) (sink_view (g.K.Sink.written c.feed_piece.new.out) (g.K.Sink.faults c.feed_piece.new.out)) took fits
    c.in-Err-feed_piece.why c.loop-wanted.invariant.writes f

pub loop-wanted-preserved : goal.loop-wanted-preserved
loop-wanted-preserved g c = record {
  going = λ before h.
      let s = going_roomy c.loop-wanted.front.links c.reserve.new.self _ _ before c.args.line.link c.args.line.moment _ c.args.line.len _ _ c.in-Ok.ensures.stands (c.loop-wanted.invariant.going before h) in
      let f = c.in_default-feed_piece.ensures.feeds c.args.front.now.desk.run.site.limits.file before s.bytes (events_of s.exchanges) s.stands in
      let count = c.in-Ok-take_piece.count in
      let piece = c.take_piece.new.piece in
      let t = c.in-Ok-take_piece.ensures.took in
      let front = take-append-le count piece (drop c.min-most.result c.loop-wanted.buffer) t.2 in
      let took = subst (Took (script_view (g.S.Source.left c.loop-wanted.script) c.loop-wanted.taken (g.S.Source.faults c.loop-wanted.script)) (script_view (g.S.Source.left c.take_piece.new.script) c.take_piece.new.taken (g.S.Source.faults c.take_piece.new.script))) (sym front) t.0 in
      let counted : length (take count (piece ++ drop c.min-most.result c.loop-wanted.buffer)) ≡ count = omega (arith, ap length front, length-take count piece, t.2) in
      let fits : length (take count (piece ++ drop c.min-most.result c.loop-wanted.buffer)) ≤ c.loop-wanted.wanted =
      omega (arith, t.2, c.take_piece.auto.piece, length-take count (piece ++ drop c.min-most.result c.loop-wanted.buffer), length-take c.min-most.result c.loop-wanted.buffer) in
      subst (λ (k : ℕ). Going c.feed_piece.new.front.links c.args.front.now.desk.run c.feed_piece.new.front.desk.run before c.args.line.link c.args.line.moment (c.loop-wanted.wanted - k) c.args.line.len
      (world (script_view (g.S.Source.left c.args.script.now) c.args.taken.now (g.S.Source.faults c.args.script.now)) (sink_view (g.K.Sink.written c.args.out.now) (g.K.Sink.faults c.args.out.now)))
      (world (script_view (g.S.Source.left c.take_piece.new.script) c.take_piece.new.taken (g.S.Source.faults c.take_piece.new.script)) (sink_view (g.K.Sink.written c.feed_piece.new.out) (g.K.Sink.faults c.feed_piece.new.out)))) counted
      (going_on c.reserve.new.self _ c.loop-wanted.front.desk.run before c.args.line.link c.args.line.moment c.loop-wanted.wanted c.args.line.len _ _ s c.feed_piece.new.front.links c.feed_piece.new.front.desk.run (take count (piece ++ drop c.min-most.result c.loop-wanted.buffer))
      (script_view (g.S.Source.left c.take_piece.new.script) c.take_piece.new.taken (g.S.Source.faults c.take_piece.new.script)) (sink_view (g.K.Sink.written c.feed_piece.new.out) (g.K.Sink.faults c.feed_piece.new.out)) took fits tt f);
  ready = c.in_default-feed_piece.ensures.ready ∙ c.loop-wanted.invariant.ready;
  reads = omega arith;
  writes = omega arith;
  within = omega arith;
}
