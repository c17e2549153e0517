-- The laws of what a disk in memory leaves.
use Rattle.std.specs.Prelude.{◌≡◌, ℕ, ◌≤◌, List, length, take}
use Rattle.std.proofs.Common.{subst, sym, ap, arith, ◌∙◌, refl}
use Rattle.std.proofs.lemmas.List.{take_all}
use Rattle.journal_disks.specs.declared.events.DiskEvent.{DiskEvent}
use Rattle.journal_disks.specs.Events.{After, Just, LeftBy}

-- what a crash may leave now counts from any moment on
pub now_counts : (first : List ℕ) (es : List DiskEvent) (t : ℕ) (c : List ℕ) → t ≤ length es → After (Just first) es c → LeftBy first es t c
now_counts first es t c le now = (length es, le, omega arith, subst (λ (l : List DiskEvent). After (Just first) l c) (sym (take_all (length es) es (omega arith))) now)

-- since this moment there is nothing else
pub only_this : (first : List ℕ) (es : List DiskEvent) (c : List ℕ) → LeftBy first es (length es) c → After (Just first) es c
only_this first es c left = subst (λ (l : List DiskEvent). After (Just first) l c) (take_all left.0 es left.1) left.3
