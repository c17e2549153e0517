use Rattle.turn_hall.specs.Handles.{first_of, view}
use Rattle.drive_turns.proofs.turn.drive_turn.Goals as goal

pub turn-back-requires-clause-asked : goal.turn-back-requires-clause-asked
turn-back-requires-clause-asked g c = (c.in-Some.ensures.fits (g.T.Keeps.site (first_of c.args.hall.now)) (view c.args.pass.now) c.requires.seated).1

pub end_step-requires-clause-heard : goal.end_step-requires-clause-heard
end_step-requires-clause-heard g c = c.in-Some.ensures.heard (g.T.Keeps.site (first_of c.args.hall.now)) (view c.args.pass.now) (view c.turn-back.new.pass) c.turn-back.result c.turn-back.ensures.turn

pub returns-in-Some-clause-seated : goal.returns-in-Some-clause-seated
returns-in-Some-clause-seated g c =
    (c.end_step.ensures.turned (g.T.Keeps.site (first_of c.args.hall.now)) (view c.args.pass.now) (view c.turn-back.new.pass) c.args.session.now (g.D.TapeDrive.seen c.args.drive.now) (g.D.TapeDrive.seen c.begin_step.new.drive) c.in-Some.call
    c.requires.seated c.in-Some.ensures.begun c.turn-back.ensures.turn).0

pub returns-in-Some-clause-step : goal.returns-in-Some-clause-step
returns-in-Some-clause-step g c =
    (c.end_step.ensures.turned (g.T.Keeps.site (first_of c.args.hall.now)) (view c.args.pass.now) (view c.turn-back.new.pass) c.args.session.now (g.D.TapeDrive.seen c.args.drive.now) (g.D.TapeDrive.seen c.begin_step.new.drive) c.in-Some.call
    c.requires.seated c.in-Some.ensures.begun c.turn-back.ensures.turn).1

pub returns-in-None-clause-seated : goal.returns-in-None-clause-seated
returns-in-None-clause-seated g c = (c.in-None.ensures.quiet (g.T.Keeps.site (first_of c.args.hall.now)) (view c.args.pass.now) c.requires.seated).0
