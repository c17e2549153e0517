use Rattle.std.proofs.Common.{◌≡◌, sym, ◌∙◌, subst}
use Rattle.std.specs.Prelude.{length, ◌<◌, map, slice_get, Some}
use Rattle.replay.proofs.Manned.{map-put}
use Rattle.replay.proofs.Stepping.{here, in_drives, in_sessions, indexed, length-map, seen_at, stepped, still_manned}
use Rattle.replay.proofs.desk.Desk.step.Goals as goal

pub index_mut-requires : goal.index_mut-requires
index_mut-requires g c =
    let within = in_sessions g.D.Medium.Told.told c.session_stays.ensures c.self.inside.service.archive c.self.inside.sessions.items (map g.D.TapeDrive.seen c.self.inside.drives.items) c.self.inside.ready c.args.self.now c.self.view_is c.self.invariant c.requires.ready c.args.drive c.requires.drive in
    subst (λ n. c.args.drive < n) (sym c.self.inside.sessions.ok.0) within

pub index_mut-requires-2 : goal.index_mut-requires-2
index_mut-requires-2 g c =
    let seen = in_drives g.D.Medium.Told.told c.session_stays.ensures c.self.inside.service.archive c.self.inside.sessions.items (map g.D.TapeDrive.seen c.self.inside.drives.items) c.self.inside.ready c.args.self.now c.self.view_is c.self.invariant c.requires.ready c.args.drive c.requires.drive in
    subst (λ n. c.args.drive < n) (length-map g.D.TapeDrive.seen c.self.inside.drives.items ∙ sym c.self.inside.drives.ok.0) seen

pub turned-turned-requires-clause-manned : goal.turned-turned-requires-clause-manned
turned-turned-requires-clause-manned g c =
    let ms = c.self.inside.sessions.items in
    let ds = c.self.inside.drives.items in
    let vs = map g.D.TapeDrive.seen ds in
    let d = c.args.drive in
    let one : d < length ms = in_sessions g.D.Medium.Told.told c.session_stays.ensures c.self.inside.service.archive ms vs c.self.inside.ready c.args.self.now c.self.view_is c.self.invariant c.requires.ready d c.requires.drive in
    let two : d < length ds = subst (λ n. d < n) (length-map g.D.TapeDrive.seen ds) (in_drives g.D.Medium.Told.told c.session_stays.ensures c.self.inside.service.archive ms vs c.self.inside.ready c.args.self.now c.self.view_is c.self.invariant c.requires.ready d c.requires.drive) in
    let at : slice_get ms d ≡ Some c.index_mut.result.now = indexed ms d c.index_mut.result.now one c.index_mut.ensures.value in
    let seen : slice_get vs d ≡ Some (g.D.TapeDrive.seen c.index_mut-2.result.now) = seen_at g.D.TapeDrive.seen ds d c.index_mut-2.result.now (indexed ds d c.index_mut-2.result.now two c.index_mut-2.ensures.value) in
    here g.D.Medium.Told.told c.session_stays.ensures c.self.inside.service.archive ms vs c.self.inside.ready c.args.self.now c.self.view_is c.self.invariant c.requires.ready d c.requires.drive c.index_mut.result.now (g.D.TapeDrive.seen c.index_mut-2.result.now) at seen

pub invariant_of-self : goal.invariant_of-self
invariant_of-self g c ok =
    let ms = c.self.inside.sessions.items in
    let ds = c.self.inside.drives.items in
    let vs = map g.D.TapeDrive.seen ds in
    let d = c.args.drive in
    let one : d < length ms = in_sessions g.D.Medium.Told.told c.session_stays.ensures c.self.inside.service.archive ms vs c.self.inside.ready c.args.self.now c.self.view_is c.self.invariant c.requires.ready d c.requires.drive in
    let two : d < length ds = subst (λ n. d < n) (length-map g.D.TapeDrive.seen ds) (in_drives g.D.Medium.Told.told c.session_stays.ensures c.self.inside.service.archive ms vs c.self.inside.ready c.args.self.now c.self.view_is c.self.invariant c.requires.ready d c.requires.drive) in
    let at : slice_get ms d ≡ Some c.index_mut.result.now = indexed ms d c.index_mut.result.now one c.index_mut.ensures.value in
    let seen : slice_get vs d ≡ Some (g.D.TapeDrive.seen c.index_mut-2.result.now) = seen_at g.D.TapeDrive.seen ds d c.index_mut-2.result.now (indexed ds d c.index_mut-2.result.now two c.index_mut-2.ensures.value) in
    rw (map-put g.D.TapeDrive.seen ds d c.turned-turned.new.drive)
    (still_manned g.D.Medium.Told.told c.session_stays.ensures c.self.inside.service.archive ms vs c.self.inside.ready c.args.self.now c.self.view_is c.self.invariant c.requires.ready d c.requires.drive c.index_mut.result.now (g.D.TapeDrive.seen c.index_mut-2.result.now) at seen
    c.turned-turned.new.archive c.turned-turned.new.session (g.D.TapeDrive.seen c.turned-turned.new.drive) c.args.moment c.keeps_history.ensures c.turned-turned.result c.turned-turned.ensures (sym c.is_ok-self-inside.ensures.value ∙ ok))

pub returns-clause-stepped : goal.returns-clause-stepped
returns-clause-stepped g c =
    let ms = c.self.inside.sessions.items in
    let ds = c.self.inside.drives.items in
    let vs = map g.D.TapeDrive.seen ds in
    let d = c.args.drive in
    let one : d < length ms = in_sessions g.D.Medium.Told.told c.session_stays.ensures c.self.inside.service.archive ms vs c.self.inside.ready c.args.self.now c.self.view_is c.self.invariant c.requires.ready d c.requires.drive in
    let two : d < length ds = subst (λ n. d < n) (length-map g.D.TapeDrive.seen ds) (in_drives g.D.Medium.Told.told c.session_stays.ensures c.self.inside.service.archive ms vs c.self.inside.ready c.args.self.now c.self.view_is c.self.invariant c.requires.ready d c.requires.drive) in
    let at : slice_get ms d ≡ Some c.index_mut.result.now = indexed ms d c.index_mut.result.now one c.index_mut.ensures.value in
    let seen : slice_get vs d ≡ Some (g.D.TapeDrive.seen c.index_mut-2.result.now) = seen_at g.D.TapeDrive.seen ds d c.index_mut-2.result.now (indexed ds d c.index_mut-2.result.now two c.index_mut-2.ensures.value) in
    rw (map-put g.D.TapeDrive.seen ds d c.turned-turned.new.drive)
    (stepped g.D.Medium.Told.told c.session_stays.ensures c.self.inside.service.archive ms vs c.self.inside.ready c.args.self.now c.self.view_is c.self.invariant c.requires.ready d c.requires.drive c.index_mut.result.now (g.D.TapeDrive.seen c.index_mut-2.result.now) at seen
    c.turned-turned.new.archive c.turned-turned.new.session (g.D.TapeDrive.seen c.turned-turned.new.drive) c.args.moment c.keeps_history.ensures c.keeps_media.ensures c.turned-turned.result c.turned-turned.ensures)
