-- An archive that is taken up from its journal.
use Rattle.std.proofs.Common.{◌≡◌, ◌∙◌, ◌≤◌, ℕ, inl, inr, List, [], ◌∷◌, Bool, refl, sym, ap, subst, arith}
use Rattle.std.specs.Prelude.{◌⊎◌, IfSome, None, Option, Some, map, option_map, slice_get}
use Rattle.std.specs.List.{AllByRecursion}
use Rattle.std.proofs.lemmas.List.{length-map}
use Rattle.std.proofs.lemmas.Option.{slice_get-map}
use Rattle.outside.specs.Causes.{Rose}
use Rattle.blob.specs.Records.{MediumView}
use Rattle.cta_site.specs.declared.site.Site.{Site}
use Rattle.cta_model.specs.History.{History}
use Rattle.cta_model.specs.Mounts.{tape_of_mount}
use Rattle.cta_records.specs.declared.kept.Kept.{Kept}
use Rattle.archive_state.specs.Shared.{AreShared, medium_for}
use Rattle.archive_restore.specs.Restored.{AreMediaFor}
use Rattle.archive_opening.specs.Made.{AreNewMedia}
use Rattle.archive_opening.specs.declared.status.Status.{Status}
use Rattle.archive_opening.specs.declared.status.Status.TheVariants as status
use Rattle.durable_archive.specs.declared.opening.ReopenError.{ReopenError}
use Rattle.durable_archive.specs.declared.opening.ReopenError.TheVariants as error
use Rattle.durable_archive.specs.Opened.{IsRefusedFor}
use Rattle.durable_opening.specs.Closing.{AreOpenMounts, AreUntoldMedia, IsUntoldOf, TellNoRecords}
use Rattle.durable_opening.specs.Opened.{EndsTakingUp, status_by}
use Rattle.durable_opening.proofs.Mounted.{untold_is}

-- ---- media

module _ {M : Type 0} (told : M → MediumView) where
  -- new media that tell no records
  pub new_untold : TellNoRecords told → (tells : Bool) (site : Site) (media : List M) → AreNewMedia tells site (map told media) → AreUntoldMedia told site media
  new_untold none tells site media new = record {
    count = sym (length-map media told) ∙ new.count;
    each = λ v m is. record { label = (new.each v (told m) (slice_get-map told media v ∙ ap (option_map told) is)).label; untold = none m };
  }

  -- are media for whatever a log tells
  pub untold_fit : (site : Site) (media : List M) (log : List Kept) → AreUntoldMedia told site media → AreMediaFor told site log media
  untold_fit site media log are = record { count = are.count; each = λ right v m is. untold_is told _ v m (are.each v m is) }

  -- the medium of a tape, among those that were given
  of_tape : (site : Site) (media : List M) (v : ℕ) (x : MediumView) (o : Option M) → slice_get media v ≡ o → AreUntoldMedia told site media → option_map told o ≡ Some x → IsUntoldOf v x
  of_tape site media v x None is are e = absurd (cc)
  of_tape site media v x (Some m) is are e = (let same : told m ≡ x = cc in subst (IsUntoldOf v) same (are.each v m is))

  each_of_tape : (site : Site) (h : History) (media : List M) (mounts : List (ℕ × M)) → AreUntoldMedia told site media → AllByRecursion (λ (x : ℕ × M). medium_for told media (tape_of_mount h x.0) ≡ Some (told x.1)) mounts
      → AllByRecursion (λ (x : ℕ × M). IsUntoldOf (tape_of_mount h x.0) (told x.1)) mounts
  each_of_tape site h media [] are all = tt
  each_of_tape site h media (x ∷ mounts) are all = (of_tape site media (tape_of_mount h x.0) (told x.1) (slice_get media (tape_of_mount h x.0)) refl are all.0, each_of_tape site h media mounts are all.1)

  -- the mounts that are open have the media of their tapes
  pub shared_open : (site : Site) (h : History) (media : List M) (places : List (Option MediumView)) (mounts : List (ℕ × M)) → AreUntoldMedia told site media → AreShared told h media places mounts → AreOpenMounts told h mounts
  shared_open site h media places mounts are shared = record { open_ones = shared.open_ones; media = each_of_tape site h media mounts are shared.each }

-- ---- why nothing was taken up

if_told : {A : Type 0} (P : A → Type 0) (o : Option A) → ((x : A) → o ≡ Some x → P x) → IfSome o P
if_told P None all = tt
if_told P (Some x) all = all x refl

pub not_reopened : (site : Site) (e : ReopenError) (told : Option (List ℕ)) (before behind : ℕ) → ((file : List ℕ) → told ≡ Some file → IsRefusedFor site file e) → (e ≡ error.Fault → Rose before behind) → EndsTakingUp (status_by e) site told before behind
not_reopened site error.Fault told before behind wrong fault = fault refl
not_reopened site (error.Damaged offset) told before behind wrong fault = if_told _ told wrong
not_reopened site (error.Differs entry) told before behind wrong fault = if_told _ told wrong
not_reopened site error.NoMemory told before behind wrong fault = tt

pub not_closed : (why : Status) (site : Site) (told : Option (List ℕ)) (before first behind : ℕ) → before ≤ first → (why ≡ status.NoMemory) ⊎ ((why ≡ status.JournalFault) × Rose first behind) → EndsTakingUp why site told before behind
not_closed why site told before first behind low (inl memory) = subst (λ (s : Status). EndsTakingUp s site told before behind) (sym memory) tt
not_closed why site told before first behind low (inr fault) = subst (λ (s : Status). EndsTakingUp s site told before behind) (sym fault.0) (let rose = fault.1 in omega (arith, rose, low))
