use Rattle.std.proofs.Common.{◌≡◌, arith, length}
use Rattle.std.proofs.lemmas.List.{length-map}
use Rattle.site_server.proofs.Drives.{unloaded}
use Rattle.site_server.proofs.serving.serve_archive.Goals as goal

pub serve_over-requires-clause-drives : goal.serve_over-requires-clause-drives
serve_over-requires-clause-drives g c κs within =
    let made = length-map c.args.drives.items g.D.TapeDrive.seen in
    let count = c.requires.drives.1.count in
    let most = c.keeps_rules.ensures.parts.counts.drives in
    (omega (arith, made, count, most), omega (arith, made, count), unloaded g.D.TapeDrive.seen c.requires.drives.0 c.args.site.now c.args.drives.items c.requires.drives.1)
