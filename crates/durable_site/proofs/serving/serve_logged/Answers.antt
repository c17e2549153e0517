use Rattle.std.proofs.Common.{arith, subst, sym}
use Rattle.std.specs.Prelude.{IfSome}
use Rattle.std.proofs.lemmas.List.{length-map}
use Rattle.cta_journal.specs.Standing.{StandsFor}
use Rattle.durable_site.specs.Ending.{KeepsSome}
use Rattle.durable_site.proofs.NewDrives.{unloaded}
use Rattle.durable_site.proofs.serving.serve_logged.Goals as goal

pub serve_over-requires-clause-drives : goal.serve_over-requires-clause-drives
serve_over-requires-clause-drives g c κs within =
    let made = length-map c.args.drives.items g.D.TapeDrive.seen in
    let count = c.requires.drives.1.count in
    let most = c.keeps_rules.ensures.parts.counts.drives in
    (omega (arith, made, count, most), omega (arith, made, count), unloaded g.D.TapeDrive.seen c.requires.drives.0 c.args.site.now c.args.drives.items c.requires.drives.1)

pub returns-in-Ok-clause-log : goal.returns-in-Ok-clause-log
returns-in-Ok-clause-log g c = λ begun ok stands.
    let first = c.in-Ok.ensures.hall.0 in
    let kept = c.serve_over.ensures.log begun ok (subst (λ l. StandsFor g.J.Disk.content g.J.Disk.may_leave l.first begun) (sym first) stands) in
    subst (λ l. IfSome c.serve_over.result.1 (λ k. KeepsSome g.J.Disk.content l.archive.site begun k)) first kept
