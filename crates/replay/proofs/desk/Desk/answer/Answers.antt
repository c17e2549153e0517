use Rattle.std.specs.Prelude.{map}
use Rattle.replay.proofs.Replied.{desk_kept, desk_text, request_manned}
use Rattle.replay.proofs.desk.Desk.answer.Goals as goal

pub invariant_of-self-2 : goal.invariant_of-self-2
invariant_of-self-2 g c ready =
    request_manned g.D.Medium.Told.told c.session_stays.ensures c.self.inside.service.archive c.args.moment c.self.inside.sessions.items (map g.D.TapeDrive.seen c.self.inside.drives.items) c.answer.new.self.archive c.args.request
    c.callers_ask.ensures c.in_ok-text.ensures.kept c.keeps_history.ensures (c.self.invariant ready)

pub returns-clause-text : goal.returns-clause-text
returns-clause-text g c =
    desk_text g.D.Medium.Told.told c.self.inside.service.archive c.self.inside.sessions.items (map g.D.TapeDrive.seen c.self.inside.drives.items) c.self.inside.ready c.args.self.now c.self.view_is c.args.moment c.args.request c.in_ok-text.text.items c.in_ok-text.ensures.text

pub returns-clause-kept : goal.returns-clause-kept
returns-clause-kept g c =
    desk_kept g.D.Medium.Told.told c.self.inside.service.archive c.self.inside.sessions.items (map g.D.TapeDrive.seen c.self.inside.drives.items) c.self.inside.ready c.args.self.now c.self.view_is c.args.moment c.args.request c.answer.new.self.archive c.in_ok-text.ensures.kept
