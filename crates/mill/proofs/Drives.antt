-- The drives of a mill's site.
use Rattle.std.proofs.Common.{◌≡◌, ◌<◌, ◌≤◌, ℕ, Bool, false, List, length, map, ap, sym, subst, arith, ◌∙◌}
use Rattle.std.specs.Prelude.{Some, option_map, slice_get, slice_index_or}
use Rattle.std.proofs.lemmas.List.{length-map}
use Rattle.std.proofs.lemmas.Option.{slice_get-map, slice_get-get_or}
use Rattle.cta_site.specs.declared.site.Site.{Site}
use Rattle.media.specs.Drives.{DriveView}
use Rattle.archive_opening.specs.Made.{AreNewDrives}
use Rattle.load_mill.specs.Sites.{mill_site}
use Rattle.mill_crew.specs.Posts.{AreDrives}

module _ {D : Type 0} (seen : D → DriveView) (tells : Bool) where
  unloaded : (xs : List D) → AreNewDrives tells mill_site (map seen xs) → (k : ℕ) (d : D) → k < length xs → (seen (slice_index_or xs k d)).loaded ≡ false
  unloaded xs new k d within = (new.each k (seen (slice_index_or xs k d)) (slice_get-map seen xs k ∙ ap (option_map seen) (slice_get-get_or xs k d within))).unloaded

  new_drives : (xs : List D) → AreNewDrives tells mill_site (map seen xs) → AreDrives seen 4 xs
  new_drives xs new =
      let made = length-map xs seen in
      let count : length (map seen xs) ≡ 4 = new.count in
      let all : length xs ≡ 4 = omega (arith, made, count) in
      record { all = all; few = omega (arith, all); unloaded = unloaded xs new }

  -- those that a bench has just made are the drives of the site, and none is loaded
  pub drives_are_new : (site : Site) (xs : List D) → site ≡ mill_site → AreNewDrives tells mill_site (map seen xs) → AreDrives seen (length site.drives.items) xs
  drives_are_new site xs is new = subst (λ (s : Site). AreDrives seen (length s.drives.items) xs) (sym is) (new_drives xs new)
