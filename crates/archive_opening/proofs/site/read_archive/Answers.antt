use Rattle.std.proofs.Common.{sym, subst}
use Rattle.archive_opening.specs.Seen.{source_view}
use Rattle.archive_opening.specs.SiteFile.{ReadsSite}
use Rattle.archive_opening.proofs.site.read_archive.Goals as goal

pub returns-in-Ok-open_archive-clause-read : goal.returns-in-Ok-open_archive-clause-read
returns-in-Ok-open_archive-clause-read g c =
    let A = g.A.Source in
    let a = source_view (A.left c.args.site.now) (A.faults c.args.site.now) in
    let b = source_view (A.left c.read_valid_site.new.site) (A.faults c.read_valid_site.new.site) in
    (subst (λ s. ReadsSite a b s) (sym c.in-Ok-open_archive.ensures.site) c.in-Ok.ensures, c.in-Ok-open_archive.ensures.opened)
