-- The state at the start.
use Rattle.std.proofs.Common.{◌≡◌, ◌∙◌, ℕ, zero, suc, ◌<◌, [], ◌∷◌, List, refl, sym, ap, subst, arith, length}
use Rattle.std.specs.Prelude.{Option, Some, IfOk, Result, Ok, false, map, slice_get}
use Rattle.std.proofs.lemmas.List.{length-map}
use Rattle.blob.specs.Records.{MediumView, medium_at}
use Rattle.cta_site.specs.declared.site.Site.{Site}
use Rattle.cta_model.specs.Media.{IsMediumOf}
use Rattle.part_laws.specs.Shelf.{IsPlaceOf}
use Rattle.part_laws.proofs.ShelfLaw.{shelf_starts_full}
use Rattle.archive_parts.specs.declared.parts.ArchiveParts.{ArchiveParts}
use Rattle.archive_parts.specs.PartsKept.{ArePartsKept}
use Rattle.archive_state.specs.States.{AreFirstMedia, IsState}

-- each place of a full shelf has the medium of that place
first_place : {M : Type 0} (told : M → MediumView) (media : List M) (v t : ℕ) → v < length media → ((m : M) → slice_get media v ≡ Some m → IsMediumOf [] t (told m)) → IsPlaceOf [] t false (medium_at (map (λ m. Some (told m)) media) v)
first_place told [] v t low each = absurd (omega (arith, low))
first_place told (m ∷ media) zero t low each = each m refl
first_place told (m ∷ media) (suc v) t low each = first_place told media v t (omega (arith, low)) each

pub state_begins : {M : Type 0} (told : M → MediumView) (site : Site) (p : ArchiveParts) (media : List M) (shelf : List (Option MediumView)) → AreFirstMedia told site media → ArePartsKept site [] p → shelf ≡ map (λ m. Some (told m)) media → IsState site [] p shelf
state_begins told site p media shelf first kept is = record {
  legal = tt;
  parts = kept;
  shelf = shelf_starts_full site (medium_at shelf) (λ v low. subst (λ (s : List (Option MediumView)). IsPlaceOf [] v false (medium_at s v)) (sym is) (first_place told media v v (subst (λ (n : ℕ). v < n) (sym first.count) low) (first.each v)));
  places = ap length is ∙ length-map media (λ m. Some (told m)) ∙ first.count;
}

-- what a call ensures of the value that it gives holds of the one that its result was found to have
pub ok_holds : {T E : Type 0} (P : T → Type 0) {r : Result T E} {v : T} → r ≡ Ok v → IfOk r P → P v
ok_holds P e h = subst (λ r. IfOk r P) e h
