-- The drives and the media of a site, as a bench makes them.
use Rattle.blob.specs.Records.{MediumView}
use Rattle.cta_site.specs.declared.site.Site.{Site}
use Rattle.media.specs.Drives.{DriveView}
use Rattle.media.specs.Made.{IsNewDrive, IsNewMedium}
use Rattle.std.specs.Prelude.{◌≡◌, ℕ, Bool, List, Some, length, slice_get}

-- the drives of a site, seen so at first: as a bench makes them
pub record AreNewDrives (tells : Bool) (site : Site) (seen : List DriveView) : Type 0 where
  pub count : length seen ≡ length site.drives.items
  pub each : (d : ℕ) (v : DriveView) → slice_get seen d ≡ Some v → IsNewDrive tells site d v

-- the media of a site: the one of each tape, by its number, as a bench makes them
pub record AreNewMedia (tells : Bool) (site : Site) (media : List MediumView) : Type 0 where
  pub count : length media ≡ length site.tapes.items
  pub each : (v : ℕ) (m : MediumView) → slice_get media v ≡ Some m → IsNewMedium tells v m
