-- Media that a bench has made are true for the empty history.
use Rattle.std.proofs.Common.{◌≡◌, ℕ, zero, suc, Bool, List, [], ◌∷◌, sym, ap, ◌∙◌, subst, arith}
use Rattle.std.specs.Prelude.{Some, map, slice_get}
use Rattle.std.proofs.lemmas.List.{length-map}
use Rattle.std.proofs.lemmas.Option.{IfSome_then, none-some, same_Some}
use Rattle.blob.specs.Records.{MediumView}
use Rattle.cta_site.specs.declared.site.Site.{Site}
use Rattle.cta_model.specs.Media.{IsTrueMedium, IsMediumOf}
use Rattle.archive.specs.States.{AreFirstMedia}
use Rattle.media.specs.Made.{IsNewMedium}
use Rattle.media.specs.Records.{no_records}
use Rattle.archive_opening.specs.Made.{AreNewMedia}

no_records_true : (v : ℕ) → IsTrueMedium [] v no_records
no_records_true v = record {
  within = omega arith;
  enough = omega arith;
  named = λ f c p on is. absurd (none-some p is);
}

pub new_medium_true : (tells : Bool) (v : ℕ) (m : MediumView) → IsNewMedium tells v m → IsMediumOf [] v m
new_medium_true tells v m new = record { label = new.label; truth = IfSome_then m.records new.empty (λ t is. subst (IsTrueMedium [] v) (sym is) (no_records_true v)) }

pub first_media : {M : Type 0} (tells : Bool) (site : Site) (told : M → MediumView) (ms : List M) → AreNewMedia tells site (map told ms) → AreFirstMedia told site ms
first_media tells site told ms new = record {
  count = sym (length-map ms told) ∙ new.count;
  each = λ v m is. new_medium_true tells v (told m) (new.each v (told m) (seen_at told ms v m is));
}
  where
    seen_at : {M : Type 0} (told : M → MediumView) (xs : List M) (k : ℕ) (x : M) → slice_get xs k ≡ Some x → slice_get (map told xs) k ≡ Some (told x)
    seen_at told [] k x is = absurd (none-some x is)
    seen_at told (y ∷ xs) zero x is = ap (λ z. Some (told z)) (same_Some y x is)
    seen_at told (y ∷ xs) (suc k) x is = seen_at told xs k x is
