use Rattle.std.proofs.Common.{refl}
use Rattle.std.specs.Prelude.{Ok, Err}
use Rattle.drive_turns.specs.declared.front.Came.TheVariants as came
use Rattle.drive_turns.proofs.Taking.{after_turn}
use Rattle.drive_turns.proofs.steps.end_step.Goals as goal

pub returns-in-Back-clause-turned : goal.returns-in-Back-clause-turned
returns-in-Back-clause-turned g c = λ s v w m d d' call seated begun turn.
    after_turn g.D.Medium.Told.told g.F.DriveFront.site g.F.DriveFront.history g.F.DriveFront.asking g.F.DriveFront.hears g.T.Keeps.legal g.T.Keeps.plays g.T.Keeps.topic g.T.Keeps.adds
    c.asks_are_known.ensures c.asking_session_stays.ensures c.answered_session_fits.ensures c.front_laws.ensures.legal c.front_laws.ensures.apart c.front_laws.ensures.answered c.front_laws.ensures.own
    s v w m c.args.session.now d d' call seated begun c.args.back turn (came.Back c.in-Back.answer) c.in-Back.ensures c.take.new.self (Ok c.take.result) (c.take.ensures.taken, c.take.ensures.memory)

pub returns-in-Stop-clause-turned : goal.returns-in-Stop-clause-turned
returns-in-Stop-clause-turned g c = λ s v w m d d' call seated begun turn.
    after_turn g.D.Medium.Told.told g.F.DriveFront.site g.F.DriveFront.history g.F.DriveFront.asking g.F.DriveFront.hears g.T.Keeps.legal g.T.Keeps.plays g.T.Keeps.topic g.T.Keeps.adds
    c.asks_are_known.ensures c.asking_session_stays.ensures c.answered_session_fits.ensures c.front_laws.ensures.legal c.front_laws.ensures.apart c.front_laws.ensures.answered c.front_laws.ensures.own
    s v w m c.args.session.now d d' call seated begun c.args.back turn (came.Stop c.in-Stop.cause) c.in-Stop.ensures c.args.session.now (Err c.in-Stop.cause) (refl, refl)
