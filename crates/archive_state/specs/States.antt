-- When an archive's state is kept.
use Rattle.std.specs.Prelude.{ℕ, ◌≡◌, length, [], List, Option, Some, slice_get}
use Rattle.blob.specs.Records.{MediumView, medium_at}
use Rattle.cta_site.specs.declared.site.Site.{Site}
use Rattle.cta_model.specs.History.{History}
use Rattle.cta_model.specs.Legal.{IsLegal}
use Rattle.cta_model.specs.Media.{IsMediumOf}
use Rattle.part_laws.specs.Shelf.{IsShelf}
use Rattle.archive_parts.specs.PartsKept.{ArePartsKept}
use Rattle.archive_parts.specs.declared.parts.ArchiveParts.{ArchiveParts}

-- the history is legal, the parts are kept for it, and the shelf, which has a place for each tape of the site, has the medium of each tape that
-- is not mounted, true for the history where it tells
pub record IsState (site : Site) (h : History) (p : ArchiveParts) (media : List (Option MediumView)) : Type 0 where
  pub legal : IsLegal site h
  pub parts : ArePartsKept site h p
  pub shelf : IsShelf site h (medium_at media)
  pub places : length media ≡ length site.tapes.items

-- media for the start: the one of each tape of the site, by its number, each true for the empty history where it tells
pub record AreFirstMedia {M : Type 0} (told : M → MediumView) (site : Site) (media : List M) : Type 0 where
  pub count : length media ≡ length site.tapes.items
  pub each : (v : ℕ) (m : M) → slice_get media v ≡ Some m → IsMediumOf [] v (told m)

-- the media that an archive has: a place for each tape of the site, empty where the tape is mounted, and otherwise with the tape's medium, true for the history where it
-- tells its records
pub record AreShelved (site : Site) (h : History) (media : List (Option MediumView)) : Type 0 where
  pub places : length media ≡ length site.tapes.items
  pub shelf : IsShelf site h (medium_at media)
