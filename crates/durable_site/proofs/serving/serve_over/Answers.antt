use Rattle.std.proofs.Common.{◌≡◌, ap, sym, subst}
use mir.Syntax.{erased}
use denote.Param.{param}
use denote.Param.Send.{param_send, param_sync}
use Rattle.cta_journal.specs.Standing.{StandsFor, disk_of}
use Rattle.turn_hall.specs.Handles.{first_of}
use Rattle.durable_site.specs.Ending.{EndsOf}
use Rattle.durable_site.proofs.Sent.{front_sync, logged_send}
use Rattle.durable_site.proofs.Statuses.{ends_serving, keeps_some}
use Rattle.durable_site.proofs.serving.serve_over.Lts
use Rattle.durable_site.proofs.serving.serve_over.Goals as goal

-- what is sent is a value with a snapshot, which owns nothing
pub serve_hall-served-requires-send-T : goal.serve_hall-served-requires-send-T
serve_hall-served-requires-send-T g c κs within =
    let s = logged_send (param 1 g.row.M) (param 3 g.row.J) g.M.Told g.J.Disk c.type_bounds.send-M c.type_bounds.send-J in
    param_send 1 (Lts.arg-4-1 g.row.R g.row.M g.row.D g.row.J g.row.K g.row.L g.row.C g.row.G g.row.N g.R.laws g.M.laws g.D.laws g.J.laws g.K.laws g.L.laws g.C.laws g.G.laws g.N.laws g.C.copy g.R.Threads g.R.Threads-dict g.R.Wait g.R.Wait-dict g.M.Told g.M.Told-dict g.D.TapeDrive g.D.TapeDrive-dict g.J.Disk g.J.Disk-dict g.K.Link g.K.Link-dict g.L.Listener g.L.Listener-dict g.C.Clock g.C.Clock-dict g.C.Clone g.C.Clone-dict g.G.Gate g.G.Gate-dict g.N.Alarm g.N.Alarm-dict g.M.Destruct-dict g.D.Destruct-dict g.J.Destruct-dict g.K.Destruct-dict κs)
    (record { owned = s.owned; leaving = s.leaving })

-- what is shared is the site, the alarm and a snapshot
pub serve_hall-served-requires-sync-F : goal.serve_hall-served-requires-sync-F
serve_hall-served-requires-sync-F g c κs within =
    let s = front_sync (record { mir = erased; lft = _ }) (param 1 g.row.M) (param 3 g.row.J) (param 8 g.row.N) g.M.Told g.J.Disk c.type_bounds.sync-N in
    param_sync 4 (Lts.arg-4-4 g.row.R g.row.M g.row.D g.row.J g.row.K g.row.L g.row.C g.row.G g.row.N g.R.laws g.M.laws g.D.laws g.J.laws g.K.laws g.L.laws g.C.laws g.G.laws g.N.laws g.C.copy g.R.Threads g.R.Threads-dict g.R.Wait g.R.Wait-dict g.M.Told g.M.Told-dict g.D.TapeDrive g.D.TapeDrive-dict g.J.Disk g.J.Disk-dict g.K.Link g.K.Link-dict g.L.Listener g.L.Listener-dict g.C.Clock g.C.Clock-dict g.C.Clone g.C.Clone-dict g.G.Gate g.G.Gate-dict g.N.Alarm g.N.Alarm-dict g.M.Destruct-dict g.D.Destruct-dict g.J.Destruct-dict g.K.Destruct-dict κs) (record { shared = s.shared })

pub returns-in-Ok-clause-cause : goal.returns-in-Ok-clause-cause
returns-in-Ok-clause-cause g c =
    let faults = g.J.Disk.fault_count in
    let l = c.close.result in
    let status = c.ended-status.result.0 in
    let disk = c.ended-status.result.1 in
    let accepted = c.in-Ok.served.accepted in
    let first : l.first ≡ (first_of c.args.hall).first = ap (λ s. s.first) c.close.ensures.site in
    let ends = subst (λ j. EndsOf status accepted l.closed (faults (disk_of j)) (faults disk)) first c.ended-status.ensures.status in
    let listener = c.serve_hall-served.new.listener in
    ends_serving faults status accepted l.closed disk (faults (disk_of (first_of c.args.hall).first)) (g.L.Listener.faults c.args.listener.now) (g.L.Listener.faults listener) (g.L.Listener.ended listener) ends c.in-Ok.ensures.ended c.in-Ok.ensures.cause

pub returns-in-Ok-clause-log : goal.returns-in-Ok-clause-log
returns-in-Ok-clause-log g c = λ begun ok stands.
    let l = c.close.result in
    let first : l.first ≡ (first_of c.args.hall).first = ap (λ s. s.first) c.close.ensures.site in
    let site : l.archive.site ≡ (first_of c.args.hall).archive.site = ap (λ s. s.site) c.close.ensures.site in
    let stood = subst (λ j. StandsFor g.J.Disk.content g.J.Disk.may_leave j begun) (sym first) stands in
    keeps_some g.J.Disk.content l.archive.site (first_of c.args.hall).archive.site begun l.archive.history c.ended-status.result.1 site (c.ended-status.ensures.log begun ok stood)
