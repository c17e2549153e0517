-- A tape drive as contracts see it, and what a call leaves of it.
use Rattle.std.specs.Prelude.{ℕ, ◌≡◌, ◌≤◌, List, Option, Some, None, IfSome, option_map, Result, Ok, Err, Bool, true, false, ◌&&◌, ◌==◌, not, ⊤}
use Rattle.std.specs.List.{list_any}
use Rattle.cta_site.specs.declared.site.CallKind.{CallKind}
use Rattle.cta_site.specs.declared.site.CallKind.TheVariants as kind
use Rattle.media.specs.declared.counts.Counts.{Counts}
use Rattle.media.specs.declared.planned.Planned.{Planned}
use Rattle.media.specs.declared.drive.DeviceErr.{DeviceErr}
use Rattle.media.specs.declared.drive.DeviceErr.TheVariants as err
use Rattle.media.specs.Counted.{count_of, counted, one_more, Rose}

-- what a drive is to do, and how many calls of each kind were made so far
pub record Plan : Type 0 where
  pub entries : List Planned
  pub made : Counts

-- whether it is loaded, whether it reads safe records as they were written, how many calls were made, how often each failed, and its plan where it tells one
pub record DriveView : Type 0 where
  pub loaded : Bool
  pub honest : Bool
  pub calls : ℕ
  pub faults : Counts
  pub plan : Option Plan

-- the error of an answer, none where it is Ok
abbrev pub error_of : {T : Type 0} → Result T DeviceErr → Option DeviceErr
error_of (Ok x) = None
error_of (Err e) = Some e

-- whether two calls are of one kind
abbrev pub same_kind : CallKind → CallKind → Bool
same_kind kind.Load kind.Load = true
same_kind kind.Write kind.Write = true
same_kind kind.Flush kind.Flush = true
same_kind kind.Read kind.Read = true
same_kind kind.Unload kind.Unload = true
same_kind _ _ = false

-- whether an entry of a plan names this kind and number
abbrev pub names_call : CallKind → ℕ → Planned → Bool
names_call k n p = same_kind p.call k && p.number == n

-- whether the plan lets the next call of this kind fail
abbrev pub fails_at : CallKind → List Planned → Counts → Bool
fails_at k entries made = list_any (λ (p : Planned). names_call k (count_of k (counted k made)) p && not p.alter) entries

-- whether the plan alters what the next call of this kind gives
abbrev pub alters_at : CallKind → List Planned → Counts → Bool
alters_at k entries made = list_any (λ (p : Planned). names_call k (count_of k (counted k made)) p && p.alter) entries

-- whether a drive is loaded after a call: only a load that succeeds makes it true, and only an unload makes it false
abbrev pub loaded_after : CallKind → Option DeviceErr → Bool → Bool
loaded_after kind.Load None before = true
loaded_after kind.Unload e before = false
loaded_after _ e before = before

-- the error of a call that fails or not
abbrev pub fault_if : Bool → Option DeviceErr
fault_if true = Some err.Fault
fault_if false = None

-- a plan after a call: one more was made, but for one that wanted memory
abbrev pub plan_after : CallKind → Option DeviceErr → Plan → Plan
plan_after k (Some err.NoMemory) p = p
plan_after k _ p = record p { made = counted k p.made }

-- a call fails exactly where the plan says so
abbrev pub IsAsPlanned : CallKind → Option DeviceErr → Plan → Type 0
IsAsPlanned k None p = fails_at k p.entries p.made ≡ false
IsAsPlanned k (Some err.Fault) p = fails_at k p.entries p.made ≡ true
IsAsPlanned k (Some err.NoMemory) p = ⊤

-- a drive that was called once more, to no effect
abbrev pub called_in_vain : DriveView → DriveView
called_in_vain d = record d { calls = one_more d.calls }

-- what a call leaves of the drive: whether it is loaded; no other honesty; one more call; no count of faults falls, and that of the call rose where it failed; one more
-- call in the plan, which said whether it fails; and nothing but the one call more where it wanted memory
pub record HasAnswered (k : CallKind) (old new : DriveView) (e : Option DeviceErr) : Type 0 where
  pub loaded : new.loaded ≡ loaded_after k e old.loaded
  pub honest : new.honest ≡ old.honest
  pub calls : new.calls ≡ one_more old.calls
  pub kept : (j : CallKind) → count_of j old.faults ≤ count_of j new.faults
  pub cause : e ≡ Some err.Fault → Rose (count_of k old.faults) (count_of k new.faults)
  pub plan : new.plan ≡ option_map (plan_after k e) old.plan
  pub planned : IfSome old.plan (IsAsPlanned k e)
  pub memory : e ≡ Some err.NoMemory → new ≡ called_in_vain old

-- the answer is no want of memory
abbrev pub WantsNoMemory : Option DeviceErr → Type 0
WantsNoMemory None = ⊤
WantsNoMemory (Some e) = e ≡ err.Fault
