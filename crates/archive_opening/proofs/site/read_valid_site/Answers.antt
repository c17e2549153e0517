use Rattle.std.proofs.Common.{subst, inl, arith}
use Rattle.std.specs.Prelude.{MatchResult}
use Rattle.archive_opening.specs.SiteFile.{IsSiteOf, TellsNoSite}
use Rattle.archive_opening.proofs.Sites.{site_told, too_long}
use Rattle.archive_opening.proofs.site.read_valid_site.Goals as goal

pub returns-in-Whole : goal.returns-in-Whole
returns-in-Whole g c =
    let t = c.in-Whole.ensures in
    site_told c.told_site.result _ _ _ t.0 t.1 t.2 (subst (λ bytes. MatchResult c.told_site.result (IsSiteOf bytes) (λ s. TellsNoSite s bytes)) c.deref.ensures.value c.told_site.ensures)

pub returns-in-Long : goal.returns-in-Long
returns-in-Long g c = let t = c.in-Long.ensures in (_, t.0, inl t.1, too_long _ (omega (arith, t.1)))
