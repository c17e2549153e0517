use Rattle.std.proofs.Common.{subst}
use Rattle.std.specs.Prelude.{map}
use Rattle.cta_site.specs.declared.site.Site.{Site}
use Rattle.archive_opening.specs.Made.{AreNewDrives}
use Rattle.mill.proofs.hall.archive_of.Goals as goal

pub returns-clause-drives : goal.returns-clause-drives
returns-clause-drives g c = subst (λ (s : Site). AreNewDrives (g.B.Bench.tells c.args.bench.now) s (map g.D.TapeDrive.seen c.in_ok-drives.drives.items)) c.in_ok-site.ensures c.in_ok-drives.ensures.drives
