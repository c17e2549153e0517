-- What a log restores, and the media that it wants.
use Rattle.std.specs.Prelude.{◌≡◌, ℕ, List, length, slice_get, Some}
use Rattle.blob.specs.Records.{MediumView}
use Rattle.cta_site.specs.declared.site.Site.{Site}
use Rattle.cta_model.specs.Kept as archives
use Rattle.cta_model.specs.Media.{IsMediumOf}
use Rattle.cta_records.specs.declared.kept.Kept.{Kept}
use Rattle.archive_state.specs.Shared.{AreShared}
use Rattle.archive_restore.specs.Logs.{IsRightLog, history_of_log}

module _ {M : Type 0} (told : M → MediumView) where
  -- media for a log: one for each tape of the site, by its number; and where no record is wrong, each is the medium of its tape, true for the history of the log where it
  -- tells
  pub record AreMediaFor (site : Site) (log : List Kept) (media : List M) : Type 0 where
    pub count : length media ≡ length site.tapes.items
    pub each : IsRightLog site log → (v : ℕ) (m : M) → slice_get media v ≡ Some m → IsMediumOf (history_of_log log) v (told m)

  -- no record of the log is wrong; the archive has the site and the history that the log tells; and the media are shared out to its shelf and to its open mounts
  pub record IsRestored (site : Site) (log : List Kept) (given : List M) (kept : archives.Kept) (mounts : List (ℕ × M)) : Type 0 where
    pub right : IsRightLog site log
    pub of_site : kept.site ≡ site
    pub history : kept.history ≡ history_of_log log
    pub media : AreShared told kept.history given kept.shelf mounts
