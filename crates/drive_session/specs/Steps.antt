-- What one step of a session keeps.
use Rattle.std.specs.Prelude.{ℕ, ◌≡◌, ◌≢◌, ◌<◌, ⊤, length, List, [], take, drop, slice_get, Option, Some, None, IfSome, IsSome, Bool, true, false}
use Rattle.blob.specs.declared.sum.Sum256.{Sum256}
use Rattle.blob.specs.Records.{MediumView, with_records}
use Rattle.blob.specs.Sums.{sum_of}
use Rattle.cta_site.specs.declared.site.CallKind.{CallKind}
use Rattle.cta_site.specs.declared.site.CallKind.TheVariants as kind
use Rattle.cta_site.specs.declared.site.Site.{Site}
use Rattle.cta_site.specs.Listed.{Listed}
use Rattle.cta_model.specs.declared.answers.Answer.{Answer}
use Rattle.cta_model.specs.declared.asks.Ask.{Ask}
use Rattle.cta_model.specs.declared.asks.Ask.TheVariants as ask
use Rattle.cta_model.specs.declared.asks.Fault.{Fault}
use Rattle.cta_model.specs.declared.asks.Fault.TheVariants as fault
use Rattle.cta_model.specs.declared.asks.Item.{Item}
use Rattle.cta_model.specs.declared.asks.Job.{Job}
use Rattle.cta_model.specs.declared.hands.Hand.{Hand}
use Rattle.cta_model.specs.declared.hands.Hand.TheVariants as hand
use Rattle.cta_model.specs.History.{History}
use Rattle.cta_model.specs.Mounts.{item_jobs}
use Rattle.media.specs.declared.drive.DeviceErr.{DeviceErr}
use Rattle.media.specs.declared.drive.DeviceErr.TheVariants as err
use Rattle.media.specs.Drives.{DriveView, HasAnswered, called_in_vain}
use Rattle.media.specs.Reads.{IsReadBy}
use Rattle.media.specs.Records.{HasFlushed, HasWritten, unloaded}
use Rattle.drive_session.specs.declared.reports.Call.{Call}
use Rattle.drive_session.specs.declared.reports.Call.TheVariants as call
use Rattle.drive_session.specs.declared.reports.Done.{Done}
use Rattle.drive_session.specs.declared.reports.Done.TheVariants as done
use Rattle.drive_session.specs.declared.reports.StepLine.TheVariants as line
use Rattle.drive_session.specs.declared.states.Asked.{Asked}
use Rattle.drive_session.specs.declared.states.Asked.TheVariants as asked
use Rattle.drive_session.specs.declared.states.Mounted.{Mounted}
use Rattle.drive_session.specs.declared.states.Outcome.{Outcome}
use Rattle.drive_session.specs.declared.states.State.{State}
use Rattle.drive_session.specs.declared.states.State.TheVariants as state
use Rattle.drive_session.specs.declared.states.Step.{Step}
use Rattle.drive_session.specs.Answers.{is_asking, line_after, state_after}
use Rattle.drive_session.specs.Fits.{FitsOpen, FitsState}
use Rattle.drive_session.specs.Lawful.{Follows, IsSaid, Standing, standing_of}
use Rattle.drive_session.specs.Records.{AreSafe}
use Rattle.drive_session.specs.Table.{Phase, Writing, heard, others_at, phase_of, row_by, row_of}

-- ---- the device

-- the kind of a call
abbrev pub kind_of : Call → CallKind
kind_of call.Load = kind.Load
kind_of (call.Write s) = kind.Write
kind_of call.Flush = kind.Flush
kind_of (call.Read s) = kind.Read
kind_of call.Unload = kind.Unload

-- whether an error is want of memory
abbrev pub is_no_memory : DeviceErr → Bool
is_no_memory err.Fault = false
is_no_memory err.NoMemory = true

-- the sums are the same where the test says so, and differ where it doesn't
abbrev pub AreSameIf : Bool → Sum256 → Sum256 → Type 0
AreSameIf true a b = a ≡ b
AreSameIf false a b = a ≢ b

-- a write and a read may want memory
abbrev pub MayWant : Call → Type 0
MayWant (call.Write s) = ⊤
MayWant (call.Read s) = ⊤
MayWant _ = ⊥

-- what is told of the device is what its one call in the step, of that kind, has answered; without it no call was made
abbrev pub HasDone : DriveView → DriveView → Option Done → Type 0
HasDone old new None = new ≡ old
HasDone old new (Some (done.Ok c)) = HasAnswered (kind_of c) old new None
HasDone old new (Some (done.Fault c)) = HasAnswered (kind_of c) old new (Some err.Fault)
HasDone old new (Some (done.Mismatch found wanted)) = (found ≢ wanted) × HasAnswered kind.Read old new None
HasDone old new (Some (done.NoMemory c)) = MayWant c × (new ≡ called_in_vain old)

-- no mismatch is told
abbrev pub NoMismatch : Option Done → Type 0
NoMismatch (Some (done.Mismatch found wanted)) = ⊥
NoMismatch _ = ⊤

-- what was read of an item has this sum; where the medium tells its records, an honest drive gave the item's bytes, and one that tells its plan altered them exactly where
-- the plan says so
abbrev pub WasRead : MediumView → DriveView → Item → Sum256 → Type 0
WasRead m old i sum = (bytes : List ℕ) × (sum_of bytes ≡ sum) × (IsSome m.records → IsReadBy old i.sum bytes)

-- a read that succeeds gave the sum of its item, and one that is told as a mismatch gave another
abbrev pub HasGiven : MediumView → DriveView → Option Item → Option Done → Type 0
HasGiven m old (Some i) (Some (done.Ok (call.Read s))) = (s ≡ i.fseq) × WasRead m old i i.sum
HasGiven m old (Some i) (Some (done.Mismatch found wanted)) = (wanted ≡ i.sum) × WasRead m old i found
HasGiven m old _ _ = ⊤

-- in Reading what was read is told truly, and an honest drive gives no mismatch of a medium that tells; in all other states nothing is read
abbrev pub IsReadTruly : {M : Type 0} → (M → MediumView) → DriveView → State M → Option Done → Type 0
IsReadTruly told old (state.Reading x items at) e = HasGiven (told x.medium) old (slice_get items.items at) e × (old.honest ≡ true → IsSome (told x.medium).records → NoMismatch e)
IsReadTruly told old _ e = NoMismatch e

-- ---- the medium

-- the medium that a session holds, none where it is free
abbrev pub medium_held : {M : Type 0} → (M → MediumView) → State M → Option MediumView
medium_held told state.Free = None
medium_held told (state.Held x) = Some (told x.medium)
medium_held told (state.Ready x) = Some (told x.medium)
medium_held told (state.Claimed x items blobs) = Some (told x.medium)
medium_held told (state.Writing x b) = Some (told x.medium)
medium_held told (state.Reading x items at) = Some (told x.medium)
medium_held told (state.Leaving x) = Some (told x.medium)

-- the medium behind a step's call: the one that goes with an End, or the one that the session holds
abbrev pub medium_left : {M : Type 0} → (M → MediumView) → State M → Option (Ask × Hand M) → Option MediumView
medium_left told s (Some (ask.End m f, hand.Medium y)) = Some (told y)
medium_left told s q = medium_held told s

-- the item that is written next, none where none is
abbrev pub item_written : Phase → Option Item
item_written (Writing x items at) = slice_get items at
item_written _ = None

-- what a step leaves of its medium, by what the device answered: a write adds the sum of the item, a flush makes records safe, an unload drops the pending ones, and all
-- else leaves it as it is
abbrev pub IsLeft : Option Done → Option Item → MediumView → MediumView → Type 0
IsLeft (Some (done.Ok (call.Write s))) (Some i) old new = HasWritten s i.sum old new None
IsLeft (Some (done.Fault (call.Write s))) (Some i) old new = HasWritten s i.sum old new (Some err.Fault)
IsLeft (Some (done.Ok call.Flush)) i old new = HasFlushed old new None
IsLeft (Some (done.Fault call.Flush)) i old new = HasFlushed old new (Some err.Fault)
IsLeft (Some (done.Ok call.Unload)) i old new = new ≡ with_records unloaded old
IsLeft (Some (done.Fault call.Unload)) i old new = new ≡ with_records unloaded old
IsLeft e i old new = new ≡ old

-- the same, where there is a medium; a step makes and drops none
abbrev pub LeavesMedium : Option Done → Option Item → Option MediumView → Option MediumView → Type 0
LeavesMedium e i (Some old) (Some new) = IsLeft e i old new
LeavesMedium e i None None = ⊤
LeavesMedium e i _ _ = ⊥

-- ---- the ask

-- what the device has answered where this is asked
abbrev pub IsAskedAfter : {M : Type 0} → Option (Ask × Hand M) → Option Done → Type 0
IsAskedAfter None e = ⊤
IsAskedAfter (Some (ask.Next d, k)) e = e ≡ None
IsAskedAfter (Some (ask.Claim m, k)) e = e ≡ None
IsAskedAfter (Some (ask.Flushed m items, k)) e = e ≡ Some (done.Ok call.Flush)
IsAskedAfter (Some (ask.Recalled m job, k)) e = (s : ℕ) × (e ≡ Some (done.Ok (call.Read s)))
IsAskedAfter (Some (ask.Failed m fault.Write charged returned, k)) e = (s : ℕ) × (e ≡ Some (done.Fault (call.Write s)))
IsAskedAfter (Some (ask.Failed m fault.Flush charged returned, k)) e = e ≡ Some (done.Fault call.Flush)
IsAskedAfter (Some (ask.Failed m fault.Read charged returned, k)) e = (s : ℕ) × (e ≡ Some (done.Fault (call.Read s)))
IsAskedAfter (Some (ask.Failed m (fault.Mismatch found wanted) charged returned, k)) e = e ≡ Some (done.Mismatch found wanted)
IsAskedAfter (Some (ask.End m None, k)) e = e ≡ Some (done.Ok call.Unload)
IsAskedAfter (Some (ask.End m (Some fault.Load), k)) e = e ≡ Some (done.Fault call.Load)
IsAskedAfter (Some (ask.End m (Some fault.Unload), k)) e = e ≡ Some (done.Fault call.Unload)
IsAskedAfter _ e = ⊥

-- the job at a place alone, none where there is no such place
abbrev pub one_at : List Job → ℕ → List Job
one_at jobs n = take 1 (drop n jobs)

-- the jobs that a fault charges, and those that it returns: a write charges the item that failed and returns all others of the batch, a flush charges all
abbrev pub batch_charges : List Job → ℕ → Fault → Option (List Job × List Job)
batch_charges jobs n fault.Write = Some (one_at jobs n, others_at jobs n)
batch_charges jobs n fault.Flush = Some (jobs, [])
batch_charges jobs n _ = None

-- a read charges its item alone, and so does a mismatch
abbrev pub read_charges : List Job → ℕ → Fault → Option (List Job × List Job)
read_charges jobs n fault.Read = Some (one_at jobs n, [])
read_charges jobs n (fault.Mismatch found wanted) = Some (one_at jobs n, [])
read_charges jobs n _ = None

-- what a fault charges and returns in a state
abbrev pub charges_in : {M : Type 0} → State M → Fault → Option (List Job × List Job)
charges_in (state.Claimed x items blobs) f = batch_charges (item_jobs items.items) 0 f
charges_in (state.Writing x b) f = batch_charges (item_jobs b.items.items) b.at f
charges_in (state.Reading x items at) f = read_charges (item_jobs items.items) at f
charges_in _ f = None

-- a step of a read that charges these jobs for a fault and returns none, after which the item at `next` is read
abbrev pub IsChargedFor : {M : Type 0} → Mounted M → Listed Item → ℕ → List Job → Fault → Done → Outcome → Step M → Type 0
IsChargedFor x items next jobs f out o s =
    (charged : Listed Job) × ((returned : Listed Job) × ((charged.items ≡ jobs) × (returned.items ≡ []) × (s ≡ record { state = state.Reading x items next; asked = asked.Known o; report = record { device = Some out; ask = Some (ask.Failed x.mount f charged returned, hand.Nothing) } })))

-- a Failed names what its fault charges and returns
abbrev pub IsCharged : {M : Type 0} → State M → Option (Ask × Hand M) → Type 0
IsCharged before (Some (ask.Failed m f charged returned, k)) = charges_in before f ≡ Some (charged.items, returned.items)
IsCharged before _ = ⊤

-- each of these items has a safe record on the medium of a ready mount, where it tells
abbrev pub AreSafeIn : {M : Type 0} → (M → MediumView) → State M → List Item → Type 0
AreSafeIn told (state.Ready x) items = IfSome (told x.medium).records (λ t. AreSafe t items)
AreSafeIn told _ items = ⊥

-- a Flushed names items that each have a safe record
abbrev pub IsFlushedSafe : {M : Type 0} → (M → MediumView) → State M → Option (Ask × Hand M) → Type 0
IsFlushedSafe told s (Some (ask.Flushed m items, k)) = AreSafeIn told s items.items
IsFlushedSafe told s _ = ⊤

-- ---- the state

-- whether the drive is loaded in a state
abbrev pub is_loaded_in : {M : Type 0} → State M → Bool
is_loaded_in state.Free = false
is_loaded_in (state.Held x) = false
is_loaded_in _ = true

-- the mount is the same, and so is its medium
pub record IsSameMount {M : Type 0} (told : M → MediumView) (x y : Mounted M) : Type 0 where
  pub mount : y.mount ≡ x.mount
  pub direction : y.direction ≡ x.direction
  pub tape : y.tape ≡ x.tape
  pub medium : told y.medium ≡ told x.medium

-- a batch is as it was, with an item left; before the first write its lists may have been made
abbrev pub IsAsBefore : {M : Type 0} → (M → MediumView) → State M → State M → Type 0
IsAsBefore told (state.Claimed x items blobs) (state.Claimed y more others) = IsSameMount told x y × (more ≡ items) × (others ≡ blobs)
IsAsBefore told (state.Claimed x items blobs) (state.Writing y b) = IsSameMount told x y × (b.items ≡ items) × (b.blobs ≡ blobs) × (b.at ≡ 0)
IsAsBefore told (state.Writing x b) (state.Writing y c) = IsSameMount told x y × (c ≡ b) × (b.at < length b.items.items)
IsAsBefore told (state.Reading x items at) (state.Reading y more n) = IsSameMount told x y × (more ≡ items) × (n ≡ at) × (at < length items.items)
IsAsBefore told _ _ = ⊥

-- after a want of memory the session is as it was: only a write or a read may want any
abbrev pub IsKeptAt : {M : Type 0} → (M → MediumView) → State M → Asked → State M → Type 0
IsKeptAt told before (asked.Nothing line.Memory) s = IsAsBefore told before s
IsKeptAt told before _ s = ⊤

-- what a state or an open ask says of a history
abbrev pub FitsReport : {M : Type 0} → (M → MediumView) → Site → History → ℕ → State M → Asked → Option (Ask × Hand M) → Type 0
FitsReport told site h d s w None = FitsState told site h d s
FitsReport told site h d s w (Some (a, k)) = FitsOpen told site h d s w a k

-- the state fits some history
abbrev pub FitsSome : {M : Type 0} → (M → MediumView) → ℕ → State M → Type 0
FitsSome told d s = (site : Site) × ((h : History) × FitsState told site h d s)

-- whatever is answered, the line follows, and says what the device answered
abbrev pub LeadsOn : {M : Type 0} → Standing → Asked → State M → Option Done → Type 0
LeadsOn {M = M} from w s e = (a : Answer) (k : Hand M) → Follows from (line_after w s a k) (standing_of (state_after w s a k)) × IsSaid (line_after w s a k) e

-- whether something is asked
abbrev pub has_ask : {M : Type 0} → Option (Ask × Hand M) → Bool
has_ask None = false
has_ask (Some q) = true

-- what a step of a state keeps
pub record IsStep {M : Type 0} (told : M → MediumView) (d : ℕ) (before : State M) (old new : DriveView) (s : Step M) : Type 0 where
  pub device : HasDone old new s.report.device
  pub read : IsReadTruly told old before s.report.device
  pub left : LeavesMedium s.report.device (item_written (phase_of before)) (medium_held told before) (medium_left told s.state s.report.ask)
  pub loaded : new.loaded ≡ is_loaded_in s.state
  pub waits : is_asking s.asked ≡ has_ask s.report.ask
  pub table : row_of d (phase_of before) (heard s.asked s.report.device) ≡ Some (row_by s)
  pub asked : IsAskedAfter s.report.ask s.report.device
  pub charged : IsCharged before s.report.ask
  pub safe : IsFlushedSafe told s.state s.report.ask
  pub kept : IsKeptAt told before s.asked s.state
  pub lawful : LeadsOn (standing_of before) s.asked s.state s.report.device
  pub fits : (site : Site) (h : History) → FitsState told site h d before → FitsReport told site h d s.state s.asked s.report.ask
