use Rattle.std.proofs.Common.{◌∙◌, ap}
use Rattle.cta_model.specs.Bare.{bare_ask}
use Rattle.cta_model.specs.Kept.{Kept}
use Rattle.replay.proofs.Asked.{asked_of}
use Rattle.replay.proofs.Running.{kept_after-site}
use Rattle.replay.proofs.desk.answered.Goals as goal

pub returns-in-Ok : goal.returns-in-Ok
returns-in-Ok g c =
    let site = ap (λ (k : Kept). k.site) c.in-Ok.ensures.kept ∙ kept_after-site c.args.archive.now c.args.moment (bare_ask c.args.asked.0) _ _ in
    record {
      answered = asked_of g.D.Medium.Told.told c.asks_are_fit.ensures c.asks_are_known.ensures c.answered_session_fits.ensures c.answers_lead_by_phase.ensures c.args.archive.now c.ask.new.self c.args.session.now c.take.new.self c.args.moment c.args.asked.0
          c.args.asked.1 c.in-Ok.back.1 c.in-Ok.back.0 c.take.result c.keeps_history.ensures c.requires.moment c.requires.asks c.requires.idle c.in-Ok.ensures.answer c.in-Ok.ensures.kept c.in-Ok.ensures.shelf site c.in-Ok.ensures.hand
          c.take.ensures.taken.0 c.take.ensures.taken.1 c.requires.kept c.take.ensures.memory;
    }
