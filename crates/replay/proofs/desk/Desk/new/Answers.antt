use Rattle.std.proofs.Common.{true, length, subst, sym}
use Rattle.std.specs.Prelude.{map}
use Rattle.cta_site.specs.declared.site.Site.{Site}
use Rattle.cta_model.specs.Kept.{Kept}
use Rattle.archive_opening.specs.Made.{AreNewDrives}
use Rattle.replay.specs.Desk.{AreFree, AreManned, Begins, desk_of}
use Rattle.replay.proofs.Benches.{all_manned, starts}
use Rattle.replay.proofs.desk.Desk.new.Goals as goal

pub invariant_of-result : goal.invariant_of-result
invariant_of-result g c = λ ready.
    let told = g.D.Medium.Told.told in
    let site = c.args.archive.site in
    let ms = c.in-Ok.field-0.sessions.items in
    let vs = map g.D.TapeDrive.seen c.in-Ok.field-0.drives.items in
    let tells = g.B.Bench.tells c.args.bench.now in
    let new : AreNewDrives tells site vs = subst (λ (s : Site). AreNewDrives tells s vs) c.site.ensures c.in-Ok.ensures.drives in
    let free : AreFree (length site.drives.items) ms = subst (λ (s : Site). AreFree (length s.drives.items) ms) c.site.ensures c.in-Ok.ensures.sessions in
    subst (λ (k : Kept). AreManned told k.site k.history ms vs) (sym c.requires.is) (all_manned told site ms vs free tells new)

pub returns-in-Ok : goal.returns-in-Ok
returns-in-Ok g c =
    let told = g.D.Medium.Told.told in
    let site = c.args.archive.site in
    let ms = c.in-Ok.field-0.sessions.items in
    let vs = map g.D.TapeDrive.seen c.in-Ok.field-0.drives.items in
    let tells = g.B.Bench.tells c.args.bench.now in
    let new : AreNewDrives tells site vs = subst (λ (s : Site). AreNewDrives tells s vs) c.site.ensures c.in-Ok.ensures.drives in
    let free : AreFree (length site.drives.items) ms = subst (λ (s : Site). AreFree (length s.drives.items) ms) c.site.ensures c.in-Ok.ensures.sessions in
    subst (λ (k : Kept). Begins tells site (desk_of told k ms vs true)) (sym c.requires.is) (starts told site ms vs free tells c.requires.media new c.requires.new)
