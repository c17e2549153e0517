-- What a call of a drive in memory leaves.
use Rattle.std.proofs.Common.{◌≡◌, ◌≤◌, ℕ, List, Bool, true, false, refl, sym, arith}
use Rattle.std.specs.Prelude.{Option, Some, None, option_map, MatchOption, if◌then◌else◌}
use Rattle.cta_site.specs.declared.site.CallKind.{CallKind}
use Rattle.cta_site.specs.declared.site.CallKind.TheVariants as kind
use Rattle.media.specs.declared.counts.Counts.{Counts}
use Rattle.media.specs.declared.planned.Planned.{Planned}
use Rattle.media.specs.declared.drive.DeviceErr.TheVariants as err
use Rattle.media.specs.Counted.{count_of, counted, one_more, Rose}
use Rattle.media.specs.Drives.{DriveView, Plan, fails_at, loaded_after, fault_if, plan_after, IsAsPlanned, HasAnswered, called_in_vain}

-- no count falls
pub counted_kept : (k j : CallKind) (c : Counts) → count_of j c ≤ count_of j (counted k c)
counted_kept kind.Load kind.Load c = omega arith
counted_kept kind.Write kind.Write c = omega arith
counted_kept kind.Flush kind.Flush c = omega arith
counted_kept kind.Read kind.Read c = omega arith
counted_kept kind.Unload kind.Unload c = omega arith
counted_kept _ _ c = omega arith

pub counted_rose : (k : CallKind) (c : Counts) → Rose (count_of k c) (count_of k (counted k c))
counted_rose kind.Load c = omega arith
counted_rose kind.Write c = omega arith
counted_rose kind.Flush c = omega arith
counted_rose kind.Read c = omega arith
counted_rose kind.Unload c = omega arith

pub call_answers : (k : CallKind) (l hon : Bool) (n : ℕ) (fs md : Counts) (es : List Planned) (b : Bool) → fails_at k es md ≡ b
    → HasAnswered k (record { loaded = l; honest = hon; calls = n; faults = fs; plan = Some (record { entries = es; made = md }) })
    (record { loaded = loaded_after k (fault_if b) l; honest = hon; calls = one_more n; faults = (if b then counted k fs else fs); plan = Some (record { entries = es; made = counted k md }) }) (fault_if b)
call_answers k l hon n fs md es true fails = record { loaded = refl; honest = refl; calls = refl; kept = λ j. counted_kept k j fs; cause = λ _. counted_rose k fs; plan = refl; planned = fails; memory = λ e. absurd (cc) }
call_answers k l hon n fs md es false fails = record { loaded = refl; honest = refl; calls = refl; kept = λ j. omega arith; cause = λ e. absurd (cc); plan = refl; planned = fails; memory = λ e. absurd (cc) }

pub same_plan : (k : CallKind) (p : Option Plan) → p ≡ option_map (plan_after k (Some err.NoMemory)) p
same_plan k None = refl
same_plan k (Some p) = refl

pub any_plan : (k : CallKind) (p : Option Plan) → MatchOption p (Unit {0}) (IsAsPlanned k (Some err.NoMemory))
any_plan k None = tt
any_plan k (Some p) = tt

-- a call that wants memory leaves the drive but for its count of calls
pub memory_answers : (k : CallKind) (d : DriveView) → loaded_after k (Some err.NoMemory) d.loaded ≡ d.loaded → HasAnswered k d (called_in_vain d) (Some err.NoMemory)
memory_answers k d same = record { loaded = sym same; honest = refl; calls = refl; kept = λ j. omega arith; cause = λ e. absurd (cc); plan = same_plan k d.plan; planned = any_plan k d.plan; memory = λ _. refl }
