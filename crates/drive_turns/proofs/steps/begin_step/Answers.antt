use Rattle.std.proofs.Common.{◌≡◌, subst}
use Rattle.drive_turns.specs.Turns.{HasBegun}
use Rattle.std.specs.Prelude.{Some}
use Rattle.drive_turns.proofs.Asking.{call_fits, call_is, quiet_turn}
use Rattle.drive_turns.proofs.steps.begin_step.Goals as goal

pub returns-in-Some-clause-fits : goal.returns-in-Some-clause-fits
returns-in-Some-clause-fits g c =
    let asking = g.F.DriveFront.asking in
    let is : c.call_of.result ≡ asking c.now.result c.in-Some.asked.0 c.in-Some.asked.1 = subst (λ p. c.call_of.result ≡ asking c.now.result p.0 p.1) c.in-Some.asked-is c.call_of.ensures in
    let begun : HasBegun g.D.Medium.Told.told asking c.args.session.now c.work-report.new.self (g.D.TapeDrive.seen c.args.drive.now) (g.D.TapeDrive.seen c.work-report.new.drive) (Some c.call_of.result) = record {
      report = c.work-report.result;
      work = c.work-report.ensures.work;
      called = call_is asking c.work-report.result.ask c.now.result c.in-Some.asked.0 c.in-Some.asked.1 c.call_of.result c.in-Some.is c.now.ensures is;
      loaded = c.work-report.ensures.loaded;
      fits = c.work-report.ensures.fits;
    } in
    λ s v seated.
    call_fits g.D.Medium.Told.told g.F.DriveFront.site g.F.DriveFront.history asking g.T.Keeps.topic g.T.Keeps.adds g.T.Keeps.fits g.T.Keeps.asks c.asks_are_fit.ensures c.front_laws.ensures.fit c.front_laws.ensures.about s v
    c.args.session.now c.work-report.new.self (g.D.TapeDrive.seen c.args.drive.now) (g.D.TapeDrive.seen c.work-report.new.drive) c.call_of.result seated begun

pub returns-in-None-clause-quiet : goal.returns-in-None-clause-quiet
returns-in-None-clause-quiet g c = λ s v seated.
    quiet_turn g.D.Medium.Told.told g.F.DriveFront.site g.F.DriveFront.history g.F.DriveFront.asking g.T.Keeps.topic g.T.Keeps.adds g.F.DriveFront.hears (g.T.Keeps.legal s) (g.T.Keeps.plays s) s v
    c.args.session.now c.work-report.new.self (g.D.TapeDrive.seen c.args.drive.now) (g.D.TapeDrive.seen c.work-report.new.drive) c.work-report.result seated c.work-report.ensures.work c.work-report.ensures.loaded c.work-report.ensures.fits c.in-None.is
