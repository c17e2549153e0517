use Rattle.replay.proofs.Turned.{asked_turn, has_worked, idles, opens, quiet_turn}
use Rattle.replay.proofs.desk.turned.Goals as goal

pub answered-requires-clause-asks : goal.answered-requires-clause-asks
answered-requires-clause-asks g c =
    let x = has_worked g.D.Medium.Told.told c.args.archive.now.site c.args.archive.now.history c.args.number c.args.session.now c.work-report.new.self _ _ c.work-report.result c.requires.manned c.work-report.ensures.work c.work-report.ensures.loaded c.work-report.ensures.fits in
    opens g.D.Medium.Told.told c.args.archive.now c.args.archive.now c.args.number c.args.moment c.args.session.now c.work-report.new.self c.work-report.new.self _ _ c.work-report.result x c.in-Some.asked.0 c.in-Some.asked.1 c.in-Some.is _ c.in-Some.asked-is

pub answered-requires-clause-idle : goal.answered-requires-clause-idle
answered-requires-clause-idle g c =
    let x = has_worked g.D.Medium.Told.told c.args.archive.now.site c.args.archive.now.history c.args.number c.args.session.now c.work-report.new.self _ _ c.work-report.result c.requires.manned c.work-report.ensures.work c.work-report.ensures.loaded c.work-report.ensures.fits in
    idles g.D.Medium.Told.told c.args.archive.now c.args.archive.now c.args.number c.args.moment c.args.session.now c.work-report.new.self c.work-report.new.self _ _ c.work-report.result x c.in-Some.asked.0 c.in-Some.asked.1 c.in-Some.is _ c.in-Some.asked-is

pub returns-in-Some : goal.returns-in-Some
returns-in-Some g c =
    let x = has_worked g.D.Medium.Told.told c.args.archive.now.site c.args.archive.now.history c.args.number c.args.session.now c.work-report.new.self _ _ c.work-report.result c.requires.manned c.work-report.ensures.work c.work-report.ensures.loaded c.work-report.ensures.fits in
    asked_turn g.D.Medium.Told.told c.args.archive.now c.answered.new.archive c.args.number c.args.moment c.args.session.now c.work-report.new.self c.answered.new.session _ _ c.work-report.result x c.in-Some.asked.0 c.in-Some.asked.1 c.in-Some.is _ c.in-Some.asked-is c.answered.result c.answered.ensures.answered

pub returns-in-None : goal.returns-in-None
returns-in-None g c =
    let x = has_worked g.D.Medium.Told.told c.args.archive.now.site c.args.archive.now.history c.args.number c.args.session.now c.work-report.new.self _ _ c.work-report.result c.requires.manned c.work-report.ensures.work c.work-report.ensures.loaded c.work-report.ensures.fits in
    quiet_turn g.D.Medium.Told.told c.args.archive.now c.args.archive.now c.args.number c.args.moment c.args.session.now c.work-report.new.self c.work-report.new.self _ _ c.work-report.result x c.steps_hear_answers.ensures c.in-None.is c.unasked.result (rw c.line.ensures at c.unasked.ensures)
