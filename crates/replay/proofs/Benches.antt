-- Sessions that are free, and a desk at its start.
use Rattle.std.proofs.Common.{◌≡◌, ℕ, suc, ◌<◌, Bool, true, false, List, [], ◌∷◌, length, refl, sym, ap, ◌∙◌, subst, arith}
use Rattle.std.specs.Prelude.{Some, map, slice_get}
use Rattle.blob.specs.Records.{MediumView}
use Rattle.cta_site.specs.declared.site.Site.{Site}
use Rattle.media.specs.Drives.{DriveView}
use Rattle.media.specs.Made.{IsNewDrive}
use Rattle.drive_session.specs.declared.session.Memo.{Memo}
use Rattle.drive_session.specs.declared.states.State.TheVariants as state
use Rattle.archive_opening.specs.Made.{AreNewDrives, AreNewMedia}
use Rattle.archive_opening.specs.SiteReading.{fresh}
use Rattle.archive_opening.proofs.Numbered.{Numbered, got_within}
use Rattle.replay.specs.Desk.{AreFree, AreManned, Begins, HasNoMount, IsManned, desk_of, drive_states, free_memo}
use Rattle.replay.specs.Steps.{DriveState, free_drive}

-- ---- sessions

pub free_sessions : {M : Type 0} (count : ℕ) (ms : List (Memo M)) → Numbered (λ d m. m ≡ free_memo d) count ms → AreFree count ms
free_sessions count ms n = record { count_is = n.count_is; each = n.each }

-- ---- a desk at its start

none_open : (d : ℕ) → HasNoMount [] d
none_open d m way v at = let no : false ≡ true = at.still in cc

free_states : {M : Type 0} (told : M → MediumView) (ms : List (Memo M)) (vs : List DriveView) → length ms ≡ length vs → ((d : ℕ) (m : Memo M) → slice_get ms d ≡ Some m → m.state ≡ state.Free)
    → drive_states told ms vs ≡ map free_drive vs
free_states told [] [] same each = refl
free_states told [] (v ∷ vs) same each = absurd (omega (arith, same))
free_states told (m ∷ ms) [] same each = absurd (omega (arith, same))
free_states told (m ∷ ms) (v ∷ vs) same each =
    let now : m.state ≡ state.Free = each 0 m refl in
    let later : drive_states told ms vs ≡ map free_drive vs = free_states told ms vs (omega (arith, same)) (λ d n is. each (suc d) n is) in
    rw now (ap (λ ds. free_drive v ∷ ds) later)

module _ {M : Type 0} (told : M → MediumView) (site : Site) (ms : List (Memo M)) (vs : List DriveView) (free : AreFree (length site.drives.items) ms) where
  free_is : (d : ℕ) (m : Memo M) → slice_get ms d ≡ Some m → m.state ≡ state.Free
  free_is d m is = ap (λ (n : Memo M). n.state) (free.each d m is)

  pub starts : (tells : Bool) (media : List MediumView) → AreNewDrives tells site vs → AreNewMedia tells site media → Begins tells site (desk_of told (fresh site media) ms vs true)
  starts tells media drives new = record {
    made = record { media = media; drives = vs };
    new = record { media = new; drives = drives };
    run = ap (λ (ds : List DriveState). record { site = site; history = []; shelf = map Some media; drives = ds }) (free_states told ms vs (free.count_is ∙ sym drives.count) free_is);
    ready = refl;
  }

  free_manned : (tells : Bool) (d : ℕ) (v : DriveView) → d < length site.drives.items → IsNewDrive tells site d v → IsManned told site [] d (free_memo d) v
  free_manned tells d v known new = record { number = refl; kept = refl; rest = refl; fits = record { known = known; state = tt }; loaded = new.unloaded; free = λ f. none_open d }

  pub all_manned : (tells : Bool) → AreNewDrives tells site vs → AreManned told site [] ms vs
  all_manned tells new = record {
    sessions = free.count_is;
    drives = new.count;
    each = λ d m v is seen. subst (λ n. IsManned told site [] d n v) (sym (free.each d m is)) (free_manned tells d v (subst (λ n. d < n) free.count_is (got_within ms d m is)) (new.each d v seen));
  }
