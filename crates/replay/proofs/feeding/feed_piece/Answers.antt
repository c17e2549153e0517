use Rattle.std.proofs.Common.{◌∷◌, ◌++◌, [], refl, sym, subst}
use Rattle.links.specs.Run.{IsRun}
use Rattle.links.specs.Standing.{StandFor}
use Rattle.replay.specs.Seen.{sink_view}
use Rattle.replay.specs.Run.{answered_on, bare_exchanges, turn_with}
use Rattle.replay.proofs.RequestReplies.{on_ok}
use Rattle.replay.proofs.Writing.{events_of-bare, first_none}
use Rattle.replay.proofs.feeding.feed_piece.Goals as goal

pub returns-in-Ok-clause-feeds : goal.returns-in-Ok-clause-feeds
returns-in-Ok-clause-feeds g c = λ limit before bytes events h.
    let stand = c.in-Ok.ensures.further limit before (turn_with c.args.link c.args.moment bytes events) refl h in
    let x = c.answer_events.ensures.answered in
    let here = subst (λ es. StandFor c.turn.new.self limit (before ++ turn_with c.args.link c.args.moment (bytes ++ c.args.piece.now) (events ++ es) ∷ [])) (sym x.of_events) stand in
    record {
      more = x.exchanges;
      run = here.1;
      stands = on_ok c.answer_events.result here;
      written = x.written;
      keeps = x.keeps;
    }

pub returns-in-Err-clause-feeds : goal.returns-in-Err-clause-feeds
returns-in-Err-clause-feeds g c = λ limit before bytes events h.
    let goes_on = c.in-Err.ensures.further limit before (turn_with c.args.link c.args.moment bytes events) refl h c.requires.room in
    record {
      more = bare_exchanges goes_on.0;
      run = subst (λ es. IsRun limit (before ++ turn_with c.args.link c.args.moment (bytes ++ c.args.piece.now) (events ++ es) ∷ [])) (sym (events_of-bare goes_on.0)) goes_on.1;
      stands = tt;
      written = first_none c.args.front.now.desk.run (sink_view (g.K.Sink.written c.args.out.now) (g.K.Sink.faults c.args.out.now)) (answered_on c.args.link c.args.moment (bare_exchanges goes_on.0));
      keeps = tt;
    }
