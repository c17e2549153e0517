-- Drives and media as a bench makes them, and the archive that has them.
use Rattle.std.proofs.Common.{◌≡◌, Bool, List, [], ◌∷◌, length, refl, sym, ap, ◌∙◌, subst}
use Rattle.std.specs.Prelude.{Option, Some, Result, Ok, Err, IfOk, map}
use Rattle.std.proofs.lemmas.List.{length-map}
use Rattle.blob.specs.Records.{MediumView}
use Rattle.cta_site.specs.declared.site.Site.{Site}
use Rattle.cta_model.specs.Kept.{Kept}
use Rattle.media.specs.Drives.{DriveView}
use Rattle.media.specs.Made.{IsNewDrive, IsNewMedium}
use Rattle.archive_opening.specs.Made.{AreNewDrives, AreNewMedia}
use Rattle.archive_opening.specs.SiteReading.{IsOpened}
use Rattle.archive_opening.proofs.Numbered.{Numbered, got_map}

pub new_drives : {D : Type 0} (tells : Bool) (site : Site) (seen : D → DriveView) (ds : List D)
    → Numbered (λ d x. IsNewDrive tells site d (seen x)) (length site.drives.items) ds → AreNewDrives tells site (map seen ds)
new_drives tells site seen ds n = record {
  count = length-map ds seen ∙ n.count_is;
  each = λ d v is.
      let x = got_map seen ds d v is in
      subst (IsNewDrive tells site d) x.1.1 (n.each d x.0 x.1.0);
}

pub new_media : {M : Type 0} (tells : Bool) (site : Site) (told : M → MediumView) (ms : List M)
    → Numbered (λ v m. IsNewMedium tells v (told m)) (length site.tapes.items) ms → AreNewMedia tells site (map told ms)
new_media tells site told ms n = record {
  count = length-map ms told ∙ n.count_is;
  each = λ v m is.
      let x = got_map told ms v m is in
      subst (IsNewMedium tells v) x.1.1 (n.each v x.0 x.1.0);
}

-- the shelf of an archive that was opened with media
one_shelf : {M : Type 0} (told : M → MediumView) (ms : List M) → map (λ m. Some (told m)) ms ≡ map Some (map told ms)
one_shelf told [] = refl
one_shelf told (m ∷ ms) = ap (λ rest. Some (told m) ∷ rest) (one_shelf told ms)

-- an archive with this shelf that has kept nothing yet
abbrev opened_with : Site → List (Option MediumView) → Kept
opened_with site shelf = record { site = site; history = []; shelf = shelf }

pub opened : {M E : Type 0} (told : M → MediumView) (tells : Bool) (site : Site) (ms : List M) (r : Result Kept E) → AreNewMedia tells site (map told ms) → IfOk r (λ k. k ≡ opened_with site (map (λ m. Some (told m)) ms)) → IfOk r (IsOpened tells)
opened told tells site ms (Ok k) new is = subst (IsOpened tells) (sym is) (record { media = map told ms; new = new; is = ap (opened_with site) (one_shelf told ms) })
opened told tells site ms (Err e) new is = tt
