-- How a site file is read and an archive made of it.
use Rattle.blob.specs.Records.{MediumView}
use Rattle.cta_model.specs.Kept.{Kept}
use Rattle.cta_site.specs.declared.check.SiteError.{SiteError}
use Rattle.cta_site.specs.declared.check.SiteError.TheVariants as error
use Rattle.cta_site.specs.declared.site.Site.{Site}
use Rattle.outside.specs.Causes.{Rose}
use Rattle.archive_opening.specs.Made.{AreNewMedia}
use Rattle.archive_opening.specs.Seen.{SourceView}
use Rattle.archive_opening.specs.SiteFile.{NoSite, ReadsSite, site_limit}
use Rattle.archive_opening.specs.declared.site.SiteEnd.{SiteEnd}
use Rattle.archive_opening.specs.declared.site.SiteEnd.TheVariants.{Fault, Memory, Whole, Long}
use Rattle.archive_opening.specs.declared.status.Status.{Status}
use Rattle.archive_opening.specs.declared.status.Status.TheVariants.{NoMemory, Site as SiteRule}
use Rattle.std.specs.Io.KnownBytes.{Consumes, IsAtEnd}
use Rattle.std.specs.Prelude.{◌≡◌, ℕ, Bool, List, Some, [], length, map, ◌+◌, ◌≤◌, Result, MatchResult}

-- an archive that has kept nothing yet, with these media on its shelf
abbrev pub fresh : Site → List MediumView → Kept
fresh site media = record { site = site; history = []; shelf = map Some media }

-- an archive that has kept nothing yet, with media that a bench has made on its shelf
pub record IsOpened (tells : Bool) (archive : Kept) : Type 0 where
  pub media : List MediumView
  pub new : AreNewMedia tells archive.site media
  pub is : archive ≡ fresh archive.site media

-- the whole site file was taken; or one byte more than it may have; or its source has failed, with no more taken than a site file may have; or memory was wanted
abbrev pub TookSite : SiteEnd → SourceView → SourceView → List ℕ → Type 0
TookSite Whole a b bytes = Consumes a.left b.left bytes × IsAtEnd b.left × (length bytes ≤ site_limit)
TookSite Long a b bytes = Consumes a.left b.left bytes × (length bytes ≡ site_limit + 1)
TookSite Fault a b bytes = Consumes a.left b.left bytes × (length bytes ≤ site_limit) × Rose a.faults b.faults
TookSite Memory a b bytes = Unit {0}

-- a site that is refused gives the status of its rule, and want of memory its own
abbrev pub IsStatusOf : SiteError → Status → Type 0
IsStatusOf (error.Fault rule item) status = status ≡ SiteRule rule item
IsStatusOf error.NoMemory status = status ≡ NoMemory

-- the site that the file tells, or why there is none
abbrev pub SiteTaken : Result Site Status → SourceView → SourceView → Type 0
SiteTaken r a b = MatchResult r (ReadsSite a b) (λ status. NoSite status a b)

-- an archive of the site that the file tells, over media that a bench has made, or why there is none
abbrev pub SiteRead : Bool → Result Kept Status → SourceView → SourceView → Type 0
SiteRead tells r a b = MatchResult r (λ archive. ReadsSite a b archive.site × IsOpened tells archive) (λ status. NoSite status a b)
