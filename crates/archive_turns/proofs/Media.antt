-- What is true for an open mount stays true.
use Rattle.std.proofs.Common.{◌≡◌, ℕ, ◌≤◌, ◌++◌, Bool, true, false, refl, sym, subst, length}
use Rattle.std.specs.Prelude.{Option, Some, None, IfSome, if◌then◌else◌}
use Rattle.blob.specs.Records.{TapeRecords}
use Rattle.cta_model.specs.declared.states.Place.{Place}
use Rattle.cta_model.specs.History.{History}
use Rattle.cta_model.specs.Files.{is_live}
use Rattle.cta_model.specs.Mounts.{tape_of_mount}
use Rattle.cta_model.specs.Places.{place_of, last_flushed}
use Rattle.cta_model.specs.Media.{IsMediumOf, IsTrueMedium}
use Rattle.cta_laws.specs.Mounts.{OpenMountStays, IsMountKept}
use Rattle.archive_turns.specs.Laws.{MountIsKept, TrueMediumStays}
use Rattle.archive_turns.proofs.Entries.{sum_stays, live_below}
use Rattle.archive_turns.proofs.Mounts.{open_from, about_others}

place_live : (b : Bool) (o : Option Place) (p : Place) → (if b then o else None) ≡ Some p → b ≡ true
place_live true o p e = refl
place_live false o p e = absurd (cc)

-- a file that has a place is one of the entries
place_below : (h : History) (f c : ℕ) (p : Place) → place_of h f c ≡ Some p → f ≤ length h
place_below h f c p is = live_below h f (place_live (is_live h f) (last_flushed h f c) p is)

pub mount_is_kept : OpenMountStays → MountIsKept
mount_is_kept law site newer h m legal op apart = law site newer h m legal op (about_others m newer (open_from h m op) apart)

-- records that are true for a mount that is kept stay true
true_still : (newer h : History) (m : ℕ) → IsMountKept (newer ++ h) h m → (o : Option TapeRecords) → IfSome o (IsTrueMedium h (tape_of_mount h m)) → IfSome o (IsTrueMedium (newer ++ h) (tape_of_mount h m))
true_still newer h m kept None fact = fact
true_still newer h m kept (Some t) fact = record {
  within = fact.within;
  enough = rw kept.same_items fact.enough;
  named = λ f c p on is.
      (let old : place_of h f c ≡ Some p = kept.old_places f c p on is in
      rw (kept.same_items, sum_stays newer h f (place_below h f c p old)) (fact.named f c p on old));
}

pub true_medium_stays : MountIsKept → TrueMediumStays
true_medium_stays law site newer h m x legal op apart is =
    let kept : IsMountKept (newer ++ h) h m = law site newer h m legal op apart in
    subst (λ (v : ℕ). IsMediumOf (newer ++ h) v x) (sym kept.same_tape) (record { label = is.label; truth = true_still newer h m kept x.records is.truth })
