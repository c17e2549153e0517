-- New drives are not loaded.
use Rattle.std.proofs.Common.{◌≡◌, ◌<◌, ℕ, Bool, false, List, length, map, ap, ◌∙◌}
use Rattle.std.specs.Prelude.{option_map, slice_index_or}
use Rattle.std.proofs.lemmas.Option.{slice_get-map, slice_get-get_or}
use Rattle.cta_site.specs.declared.site.Site.{Site}
use Rattle.media.specs.Drives.{DriveView}
use Rattle.archive_opening.specs.Made.{AreNewDrives}

module _ {D : Type 0} (seen : D → DriveView) (tells : Bool) (site : Site) where
  pub unloaded : (xs : List D) → AreNewDrives tells site (map seen xs) → (k : ℕ) (d : D) → k < length xs → (seen (slice_index_or xs k d)).loaded ≡ false
  unloaded xs new k d within = (new.each k (seen (slice_index_or xs k d)) (slice_get-map seen xs k ∙ ap (option_map seen) (slice_get-get_or xs k d within))).unloaded
