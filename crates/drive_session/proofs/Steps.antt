-- What each call of the drive leaves of a session that fits.
use Rattle.std.proofs.Common.{◌≡◌, ℕ, ◌+◌, ◌-◌, ◌<◌, List, [], ◌∷◌, ◌++◌, Bool, true, false, refl, sym, subst, ◌∙◌, ap, arith, length, map, take, drop, zero, suc, append-nil}
use Rattle.std.specs.Prelude.{Option, Some, None, IfSome, option_map, slice_get, get_or, Result, Err}
use Rattle.std.proofs.lemmas.Option.{slice_get_within}
use Rattle.std.proofs.lemmas.List.{length-map}
use Rattle.std.specs.declared.sync.Arc.{Arc}
use Rattle.std.specs.declared.alloc.Global.{Global}
use Rattle.blob.specs.declared.blobs.Blob.{Blob}
use Rattle.blob.specs.declared.sum.Sum256.{Sum256}
use Rattle.blob.specs.Records.{MediumView, TapeRecords, with_records}
use Rattle.cta_site.specs.declared.site.Site.{Site}
use Rattle.cta_site.specs.declared.site.CallKind.{CallKind}
use Rattle.cta_site.specs.declared.site.CallKind.TheVariants as kind
use Rattle.cta_site.specs.Listed.{Listed}
use Rattle.cta_model.specs.declared.asks.Ask.TheVariants as ask
use Rattle.cta_model.specs.declared.asks.Fault.{Fault}
use Rattle.cta_model.specs.declared.asks.Fault.TheVariants as fault
use Rattle.cta_model.specs.declared.asks.Item.{Item}
use Rattle.cta_model.specs.declared.asks.Job.{Job}
use Rattle.cta_model.specs.declared.hands.Hand.TheVariants as hand
use Rattle.cta_model.specs.Hands.{sum_of_blob}
use Rattle.cta_model.specs.History.{History}
use Rattle.cta_model.specs.Media.{IsMediumOf, IsTrueMedium}
use Rattle.cta_model.specs.declared.asks.Direction.{Direction}
use Rattle.cta_model.specs.declared.asks.Direction.TheVariants as direction
use Rattle.cta_model.specs.declared.states.Mount.{Mount}
use Rattle.cta_model.specs.Legal.{IsEndFault, IsMountOf}
use Rattle.cta_model.specs.Mounts.{item_jobs, mount_of}
use Rattle.cta_model.specs.Tapes.{tape_items}
use Rattle.media.specs.declared.drive.DeviceErr.{DeviceErr}
use Rattle.media.specs.declared.drive.DeviceErr.TheVariants as err
use Rattle.media.specs.Drives.{DriveView, HasAnswered, WantsNoMemory, error_of}
use Rattle.media.specs.Records.{HasWritten, HasFlushed, written, flushed, unloaded}
use Rattle.drive_session.specs.declared.states.State.TheVariants as state
use Rattle.drive_session.specs.declared.states.Asked.{Asked}
use Rattle.drive_session.specs.declared.states.Asked.TheVariants as asked
use Rattle.drive_session.specs.declared.reports.Call.TheVariants as call
use Rattle.drive_session.specs.declared.reports.Done.TheVariants as done
use Rattle.drive_session.specs.declared.reports.StepLine.TheVariants as line
use Rattle.drive_session.specs.declared.states.State.{State}
use Rattle.drive_session.specs.declared.states.Outcome.{Outcome}
use Rattle.drive_session.specs.declared.states.Mounted.{Mounted}
use Rattle.drive_session.specs.declared.states.Batch.{Batch}
use Rattle.drive_session.specs.Records.{AreSafe, AreWritten, blob_sums}
use Rattle.drive_session.specs.Fits.{IsBatch, IsWriting, IsRest, FitsState, FitsOpen}
use Rattle.drive_session.specs.Steps.{FitsSome, IsAsBefore, IsKeptAt, LeavesMedium, charges_in, is_no_memory}
use Rattle.drive_session.proofs.Tapes.{medium_map, told_map, true_flushed, true_unloaded, true_written, true_less, more_written, all_flushed, flushed_safe, numbered_at}
use Rattle.drive_session.proofs.Lists.{get_map, one_of, others_of, pair_same}
use Rattle.drive_session.proofs.Resolving.{resolves_all, resolves_parted, parted}

-- the mount with its medium after a call
abbrev pub after : {M : Type 0} → Mounted M → M → Mounted M
after x m = record { mount = x.mount; direction = x.direction; tape = x.tape; medium = m }

-- ---- errors

-- a call that wants no memory fails by a fault alone
pub only_fault : {T : Type 0} (r : Result T DeviceErr) (e : DeviceErr) → r ≡ Err e → WantsNoMemory (error_of r) → error_of r ≡ Some err.Fault
only_fault r e is never = ap error_of is ∙ ap Some (rw is at never)

-- an error that is not want of memory is a fault
pub fault_left : (e : DeviceErr) (b : Bool) → b ≡ is_no_memory e → b ≡ false → e ≡ err.Fault
fault_left err.Fault b is other = refl
fault_left err.NoMemory b is other = absurd (cc)

pub memory_left : (e : DeviceErr) (b : Bool) → b ≡ is_no_memory e → b ≡ true → e ≡ err.NoMemory
memory_left err.NoMemory b is other = refl
memory_left err.Fault b is other = absurd (cc)

-- the answer of a call, by its error
pub answered_by : (k : CallKind) (old new : DriveView) (e e' : Option DeviceErr) → e ≡ e' → HasAnswered k old new e → HasAnswered k old new e'
answered_by k old new e e' is answered = subst (λ e. HasAnswered k old new e) is answered

pub loaded_flush : (old new : DriveView) (e : Option DeviceErr) → HasAnswered kind.Flush old new e → old.loaded ≡ true → new.loaded ≡ true
loaded_flush old new None answered is = answered.loaded ∙ is
loaded_flush old new (Some e) answered is = answered.loaded ∙ is

pub loaded_write : (old new : DriveView) (e : Option DeviceErr) → HasAnswered kind.Write old new e → old.loaded ≡ true → new.loaded ≡ true
loaded_write old new None answered is = answered.loaded ∙ is
loaded_write old new (Some e) answered is = answered.loaded ∙ is

pub loaded_read : (old new : DriveView) (e : Option DeviceErr) → HasAnswered kind.Read old new e → old.loaded ≡ true → new.loaded ≡ true
loaded_read old new None answered is = answered.loaded ∙ is
loaded_read old new (Some e) answered is = answered.loaded ∙ is

pub flush_records : (o n : MediumView) (e : Option DeviceErr) → e ≡ Some err.Fault → HasFlushed o n e → HasFlushed o n (Some err.Fault)
flush_records o n e is records = subst (λ e. HasFlushed o n e) is records

pub write_records : (s : ℕ) (sum : Sum256) (o n : MediumView) (e e' : Option DeviceErr) → e ≡ e' → HasWritten s sum o n e → HasWritten s sum o n e'
write_records s sum o n e e' is records = subst (λ e. HasWritten s sum o n e) is records

-- ---- loads and unloads

-- the medium of a load that failed goes with the End
pub load_fits : {M : Type 0} (told : M → MediumView) (d : ℕ) (x : Mounted M) (m : M) (o : Outcome) (f : Option Fault) → IsEndFault f → told m ≡ told x.medium
    → (site : Site) (h : History) → FitsState told site h d (state.Held x) → FitsOpen told site h d state.Free (asked.Known o) (ask.End x.mount f) (hand.Medium m)
load_fits told d x m o f cause records site h fits =
    let rest : IsRest told h d x = fits.state in
    record {
      known = fits.known;
      asked = record {
        outcome = o;
        medium = m;
        way = x.direction;
        tape = x.tape;
        state = refl;
        asked = refl;
        hand = refl;
        cause = cause;
        mount = rest.at.mount;
        claims = rest.claims;
        truth = subst (IsMediumOf h x.tape) (sym records) rest.at.medium;
      };
    }

-- a mount that was loaded claims nothing
pub held_fits : {M : Type 0} (told : M → MediumView) (d : ℕ) (x : Mounted M) (m : M) → told m ≡ told x.medium
    → (site : Site) (h : History) → FitsState told site h d (state.Held x) → FitsState told site h d (state.Ready (after x m))
held_fits told d x m records site h fits =
    let rest : IsRest told h d x = fits.state in
    record { known = fits.known; state = record { at = record { mount = rest.at.mount; medium = subst (IsMediumOf h x.tape) (sym records) rest.at.medium }; claims = rest.claims } }

-- what a medium is after an unload goes with the End
pub unload_fits : {M : Type 0} (told : M → MediumView) (d : ℕ) (x : Mounted M) (m : M) (o : Outcome) (f : Option Fault) → IsEndFault f → told m ≡ with_records unloaded (told x.medium)
    → (site : Site) (h : History) → FitsState told site h d (state.Leaving x) → FitsOpen told site h d state.Free (asked.Known o) (ask.End x.mount f) (hand.Medium m)
unload_fits told d x m o f cause records site h fits =
    let rest : IsRest told h d x = fits.state in
    record {
      known = fits.known;
      asked = record {
        outcome = o;
        medium = m;
        way = x.direction;
        tape = x.tape;
        state = refl;
        asked = refl;
        hand = refl;
        cause = cause;
        mount = rest.at.mount;
        claims = rest.claims;
        truth = medium_map h x.tape unloaded (told x.medium) (told m) records (λ t is. true_unloaded h x.tape t is) rest.at.medium;
      };
    }

-- ---- flushes

pub flush_fits : {M : Type 0} (told : M → MediumView) (d : ℕ) (x : Mounted M) (b : Batch) (m : M) → b.at ≡ length b.items.items → told m ≡ with_records flushed (told x.medium)
    → (site : Site) (h : History) → FitsState told site h d (state.Writing x b) → FitsOpen told site h d (state.Ready (after x m)) asked.Flushed (ask.Flushed x.mount b.items) hand.Nothing
flush_fits told d x b m all records site h fits =
    let w : IsWriting told h d x b = fits.state in
    record {
      known = fits.known;
      asked = record {
        mounted = after x m;
        state = refl;
        asked = refl;
        hand = refl;
        mount = refl;
        batch = record {
          at = record { mount = w.batch.at.mount; medium = medium_map h x.tape flushed (told x.medium) (told m) records (λ t is. true_flushed h x.tape t is) w.batch.at.medium };
          way = w.batch.way;
          resolves = resolves_all h x.mount b.items.items w.batch.at.mount.still w.batch.claims w.batch.once;
          last = w.batch.last;
          numbered = w.batch.numbered;
          files = w.batch.files;
          safe = told_map (AreWritten (length (tape_items h x.tape)) b.items.items b.at) _ flushed (told x.medium).records (told m).records (ap (λ (m : MediumView). m.records) records) (λ t is. all_flushed (length (tape_items h x.tape)) b.items.items t (subst (λ n. AreWritten (length (tape_items h x.tape)) b.items.items n t) all is)) w.written;
        };
      };
    }

-- each item of a flushed batch has a safe record
pub flush_safe : {M : Type 0} (told : M → MediumView) (d : ℕ) (x : Mounted M) (b : Batch) (m : M) → b.at ≡ length b.items.items → told m ≡ with_records flushed (told x.medium)
    → FitsSome told d (state.Writing x b) → IfSome (told m).records (λ t. AreSafe t b.items.items)
flush_safe told d x b m all records some =
    let h : History = some.1.0 in
    let w : IsWriting told h d x b = some.1.1.state in
    let before = length (tape_items h x.tape) in
    told_map (AreWritten before b.items.items b.at) (λ t. AreSafe t b.items.items) flushed (told x.medium).records (told m).records (ap (λ (m : MediumView). m.records) records)
    (λ t is. flushed_safe before b.items.items (flushed t) w.batch.numbered (all_flushed before b.items.items t (subst (λ n. AreWritten before b.items.items n t) all is))) w.written

many_jobs : (items : List Item) → length (item_jobs items) ≡ length items
many_jobs items = length-map _ _

-- a mount goes the way that it was mounted for
pub goes_way : (o : Option Mount) (d : ℕ) (way want : Direction) (v : ℕ) → o ≡ Some (record { drive = d; direction = way; tape = v }) → way ≡ want → IsMountOf want o
goes_way o d way want v mount is = subst (λ o. IsMountOf want o) (sym mount) is

-- after a fault of the flush all are charged
pub flush_fault_fits : {M : Type 0} (told : M → MediumView) (d : ℕ) (x : Mounted M) (b : Batch) (m : M) (o : Outcome) (charged returned : Listed Job) → charged.items ≡ b.jobs.items → returned.items ≡ [] → HasFlushed (told x.medium) (told m) (Some err.Fault)
    → (site : Site) (h : History) → FitsState told site h d (state.Writing x b) → FitsOpen told site h d (state.Leaving (after x m)) (asked.Known o) (ask.Failed x.mount fault.Flush charged returned) hand.Nothing
flush_fault_fits told d x b m o charged returned ec er records site h fits =
    let w : IsWriting told h d x b = fits.state in
    record {
      known = fits.known;
      asked = record {
        outcome = o;
        asked = refl;
        hand = refl;
        resolved = (
          refl,
          w.batch.way,
          record { mount = w.batch.at.mount; medium = true_less h x.tape (λ t. t.safe) (told x.medium) (told m) (λ t is. is.enough) records w.batch.at.medium },
          rw (ec, er, append-nil b.jobs.items, w.filled.jobs) (resolves_all h x.mount b.items.items w.batch.at.mount.still w.batch.claims w.batch.once),
        );
        cause = goes_way (mount_of h x.mount) d x.direction direction.Archive x.tape w.batch.at.mount.mount w.batch.way;
        some = (let n : length charged.items ≡ length b.items.items = ap length (ec ∙ w.filled.jobs) ∙ many_jobs b.items.items in let some = w.batch.some in omega (arith, n, some));
      };
    }

pub flush_charges : {M : Type 0} (told : M → MediumView) (d : ℕ) (x : Mounted M) (b : Batch) (charged returned : Listed Job) → charged.items ≡ b.jobs.items → returned.items ≡ [] → FitsSome told d (state.Writing x b)
    → charges_in (state.Writing x b) fault.Flush ≡ Some (charged.items, returned.items)
flush_charges told d x b charged returned ec er some =
    let w : IsWriting told some.1.0 d x b = some.1.1.state in
    pair_same _ _ _ _ (sym w.filled.jobs ∙ sym ec) (sym er)

-- ---- writes

-- the content of an item has its sum
pub sum_at : (sums : List Sum256) (items : List Item) (n : ℕ) (s : Sum256) (i : Item) → sums ≡ map (λ (i : Item). i.sum) items → slice_get items n ≡ Some i → slice_get sums n ≡ Some s → s ≡ i.sum
sum_at sums [] n s i e there is = absurd (cc)
sum_at [] (x ∷ items) n s i e there is = absurd (cc)
sum_at (y ∷ sums) (x ∷ items) zero s i e there is = cc
sum_at (y ∷ sums) (x ∷ items) (suc n) s i e there is = sum_at sums items n s i (ap tail e) there is
  where
    tail : {A : Type 0} → List A → List A
    tail [] = []
    tail (x ∷ xs) = xs

-- the content at an item's place in a batch has the item's sum
pub blob_sum : {M : Type 0} (told : M → MediumView) (h : History) (d : ℕ) (x : Mounted M) (b : Batch) (i : Item) (c : Arc Blob Global) → slice_get b.items.items b.at ≡ Some i → c ≡ get_or b.blobs.items b.at c → IsWriting told h d x b → sum_of_blob c ≡ i.sum
blob_sum told h d x b i c there is_blob w =
    let low : b.at < length b.items.items = slice_get_within b.items.items b.at i there in
    let many : length b.blobs.items ≡ length b.items.items = sym (length-map _ _) ∙ ap length w.batch.blobs ∙ length-map _ _ in
    let blob : slice_get (blob_sums b.blobs.items) b.at ≡ Some (sum_of_blob c) = get_map sum_of_blob b.blobs.items b.at c (omega (arith, low, many)) is_blob in
    sum_at _ b.items.items b.at (sum_of_blob c) i w.batch.blobs there blob

-- what a write left of the medium, of the item that was next
pub write_left : {M : Type 0} (told : M → MediumView) (d : ℕ) (x : Mounted M) (b : Batch) (i : Item) (c : Arc Blob Global) (new : MediumView) (e : Option DeviceErr) → slice_get b.items.items b.at ≡ Some i → c ≡ get_or b.blobs.items b.at c
    → FitsSome told d (state.Writing x b) → HasWritten i.fseq (sum_of_blob c) (told x.medium) new e → HasWritten i.fseq i.sum (told x.medium) new e
write_left told d x b i c new e there is_blob some records =
    subst (λ (s : Sum256). HasWritten i.fseq s (told x.medium) new e) (blob_sum told some.1.0 d x b i c there is_blob some.1.1.state) records

-- so it is left by the step
pub left_written : (o : Option Item) (i : Item) (old new : MediumView) → o ≡ Some i → HasWritten i.fseq i.sum old new None → LeavesMedium (Some (done.Ok (call.Write i.fseq))) o (Some old) (Some new)
left_written o i old new there is = subst (λ (o : Option Item). LeavesMedium (Some (done.Ok (call.Write i.fseq))) o (Some old) (Some new)) (sym there) is

pub left_unwritten : (o : Option Item) (i : Item) (old new : MediumView) → o ≡ Some i → HasWritten i.fseq i.sum old new (Some err.Fault) → LeavesMedium (Some (done.Fault (call.Write i.fseq))) o (Some old) (Some new)
left_unwritten o i old new there is = subst (λ (o : Option Item). LeavesMedium (Some (done.Fault (call.Write i.fseq))) o (Some old) (Some new)) (sym there) is

pub write_fits : {M : Type 0} (told : M → MediumView) (d : ℕ) (x : Mounted M) (b : Batch) (m : M) (i : Item) (c : Arc Blob Global) → slice_get b.items.items b.at ≡ Some i → c ≡ get_or b.blobs.items b.at c
    → told m ≡ with_records (written i.fseq (sum_of_blob c)) (told x.medium)
    → (site : Site) (h : History) → FitsState told site h d (state.Writing x b)
    → FitsState told site h d (state.Writing (after x m) (record { items = b.items; blobs = b.blobs; at = b.at + 1; jobs = b.jobs; one = b.one }))
write_fits told d x b m i c there is_blob records site h fits =
    let w : IsWriting told h d x b = fits.state in
    let low : b.at < length b.items.items = slice_get_within b.items.items b.at i there in
    let records' : told m ≡ with_records (written i.fseq i.sum) (told x.medium) = subst (λ (z : Sum256). told m ≡ with_records (written i.fseq z) (told x.medium)) (blob_sum told h d x b i c there is_blob w) records in
    let inner : (told m).records ≡ option_map (written i.fseq i.sum) (told x.medium).records = ap (λ (m : MediumView). m.records) records' in
    let num : i.fseq ≡ length (tape_items h x.tape) + 1 + b.at = numbered_at (length (tape_items h x.tape) + 1) b.items.items b.at i w.batch.numbered there in
    record {
      known = fits.known;
      state = record {
        batch = record {
          at = record { mount = w.batch.at.mount; medium = record { label = ap (λ (m : MediumView). m.label) records' ∙ w.batch.at.medium.label; truth = both (told x.medium).records (told m).records inner num w.batch.at.medium.truth w.written } };
          way = w.batch.way;
          some = w.batch.some;
          claims = w.batch.claims;
          last = w.batch.last;
          once = w.batch.once;
          numbered = w.batch.numbered;
          files = w.batch.files;
          blobs = w.batch.blobs;
        };
        filled = record { jobs = w.filled.jobs; one = w.filled.one; count = omega (arith, low) };
        written = told_map (AreWritten (length (tape_items h x.tape)) b.items.items b.at) _ (written i.fseq i.sum) (told x.medium).records (told m).records inner (λ t is. more_written (length (tape_items h x.tape)) b.items.items b.at i t w.batch.numbered there is) w.written;
      };
    }
  where
    both : (old new : Option TapeRecords) → new ≡ option_map (written i.fseq i.sum) old → i.fseq ≡ length (tape_items h x.tape) + 1 + b.at → IfSome old (IsTrueMedium h x.tape) → IfSome old (AreWritten (length (tape_items h x.tape)) b.items.items b.at) → IfSome new (IsTrueMedium h x.tape)
    both None new e num is long = rw e tt
    both (Some t) new e num is long = rw e (true_written h x.tape t i.fseq i.sum (omega (arith, num)) (let l = long.long in omega (arith, num, l)) is)

-- after a fault of a write its item is charged, and the others return
pub write_fault_fits : {M : Type 0} (told : M → MediumView) (d : ℕ) (x : Mounted M) (b : Batch) (m : M) (o : Outcome) (i : Item) (s : Sum256) (nobody : Job) (charged returned : Listed Job) → slice_get b.items.items b.at ≡ Some i
    → charged.items ≡ get_or b.jobs.items b.at nobody ∷ [] → charged.items ++ returned.items ≡ parted nobody b.jobs.items b.at → HasWritten i.fseq s (told x.medium) (told m) (Some err.Fault)
    → (site : Site) (h : History) → FitsState told site h d (state.Writing x b) → FitsOpen told site h d (state.Leaving (after x m)) (asked.Known o) (ask.Failed x.mount fault.Write charged returned) hand.Nothing
write_fault_fits told d x b m o i s nobody charged returned there one named records site h fits =
    let w : IsWriting told h d x b = fits.state in
    let low : b.at < length b.items.items = slice_get_within b.items.items b.at i there in
    let num : i.fseq ≡ length (tape_items h x.tape) + 1 + b.at = numbered_at (length (tape_items h x.tape) + 1) b.items.items b.at i w.batch.numbered there in
    record {
      known = fits.known;
      asked = record {
        outcome = o;
        asked = refl;
        hand = refl;
        resolved = (
          refl,
          w.batch.way,
          record { mount = w.batch.at.mount; medium = true_less h x.tape (λ t. i.fseq - 1) (told x.medium) (told m) (λ t is. omega (arith, num)) records w.batch.at.medium },
          rw (named, w.filled.jobs) (resolves_parted h x.mount b.items.items nobody b.at (let n = many_jobs b.items.items in omega (arith, n, low)) w.batch.at.mount.still w.batch.claims w.batch.once),
        );
        cause = goes_way (mount_of h x.mount) d x.direction direction.Archive x.tape w.batch.at.mount.mount w.batch.way;
        some = (let n : length charged.items ≡ 1 = ap length one in omega (arith, n));
      };
    }

-- the job charged and those returned, in one list
pub parted_of : (nobody : Job) (jobs charged returned : List Job) (n : ℕ) → charged ≡ get_or jobs n nobody ∷ [] → returned ≡ take n jobs ++ drop (suc n) jobs → charged ++ returned ≡ parted nobody jobs n
unfolding parted
parted_of nobody jobs charged returned n ec er = rw (ec, er) refl

pub write_charges : {M : Type 0} (told : M → MediumView) (d : ℕ) (x : Mounted M) (b : Batch) (i : Item) (nobody : Job) (charged returned : Listed Job) → slice_get b.items.items b.at ≡ Some i
    → charged.items ≡ get_or b.jobs.items b.at nobody ∷ [] → returned.items ≡ take b.at b.jobs.items ++ drop (suc b.at) b.jobs.items → FitsSome told d (state.Writing x b)
    → charges_in (state.Writing x b) fault.Write ≡ Some (charged.items, returned.items)
write_charges told d x b i nobody charged returned there ec er some =
    let w : IsWriting told some.1.0 d x b = some.1.1.state in
    let low : b.at < length (item_jobs b.items.items) = (let l = slice_get_within b.items.items b.at i there in let n = many_jobs b.items.items in omega (arith, l, n)) in
    pair_same _ _ _ _ (one_of (item_jobs b.items.items) b.at nobody low ∙ ap (λ js. get_or js b.at nobody ∷ []) (sym w.filled.jobs) ∙ sym ec)
    (others_of (item_jobs b.items.items) b.at ∙ ap (λ js. take b.at js ++ drop (suc b.at) js) (sym w.filled.jobs) ∙ sym er)

-- ---- the first write

-- a batch is begun with none written
pub begin_fits : {M : Type 0} (told : M → MediumView) (d : ℕ) (x : Mounted M) (b : Batch) → b.jobs.items ≡ item_jobs b.items.items → length b.one.items ≡ 1 → b.at ≡ 0
    → (site : Site) (h : History) → FitsState told site h d (state.Claimed x b.items b.blobs) → FitsState told site h d (state.Writing x b)
begin_fits told d x b jobs one none site h fits =
    let w : IsBatch told h d x b.items.items (blob_sums b.blobs.items) = fits.state in
    record {
      known = fits.known;
      state = record { batch = w; filled = record { jobs = jobs; one = one; count = omega (arith, none) }; written = start (told x.medium).records w.at.medium.truth };
    }
  where
    start : (o : Option TapeRecords) → IfSome o (IsTrueMedium h x.tape) → IfSome o (AreWritten (length (tape_items h x.tape)) b.items.items b.at)
    start None is = tt
    start (Some t) is = rw none (record { long = (let a = is.enough in let c = is.within in omega (arith, a, c)); recorded = tt })

-- a write that wanted memory leaves a session that fits
pub write_waits : {M : Type 0} (told : M → MediumView) (d : ℕ) (x : Mounted M) (b : Batch) (m : M) → told m ≡ told x.medium
    → (site : Site) (h : History) → FitsState told site h d (state.Writing x b) → FitsState told site h d (state.Writing (after x m) b)
write_waits told d x b m same site h fits =
    let w : IsWriting told h d x b = fits.state in
    record {
      known = fits.known;
      state = record {
        batch = record {
          at = record { mount = w.batch.at.mount; medium = subst (IsMediumOf h x.tape) (sym same) w.batch.at.medium };
          way = w.batch.way;
          some = w.batch.some;
          claims = w.batch.claims;
          last = w.batch.last;
          once = w.batch.once;
          numbered = w.batch.numbered;
          files = w.batch.files;
          blobs = w.batch.blobs;
        };
        filled = w.filled;
        written = subst (λ (m : MediumView). IfSome m.records (AreWritten (length (tape_items h x.tape)) b.items.items b.at)) (sym same) w.written;
      };
    }

-- what is as a batch with none written was is as that batch before its first write
before_writing : {M : Type 0} (told : M → MediumView) (x : Mounted M) (b : Batch) (s : State M) → b.at ≡ 0 → IsAsBefore told (state.Writing x b) s → IsAsBefore told (state.Claimed x b.items b.blobs) s
before_writing told x b (state.Writing y c) none is = (is.0, ap (λ (b : Batch). b.items) is.1, ap (λ (b : Batch). b.blobs) is.1, ap (λ (b : Batch). b.at) is.1 ∙ none)
before_writing told x b (state.Free) none is = absurd is
before_writing told x b (state.Held y) none is = absurd is
before_writing told x b (state.Ready y) none is = absurd is
before_writing told x b (state.Claimed y items blobs) none is = absurd is
before_writing told x b (state.Reading y items at) none is = absurd is
before_writing told x b (state.Leaving y) none is = absurd is

pub begun_before : {M : Type 0} (told : M → MediumView) (x : Mounted M) (b : Batch) (w : Asked) (s : State M) → b.at ≡ 0 → IsKeptAt told (state.Writing x b) w s → IsKeptAt told (state.Claimed x b.items b.blobs) w s
begun_before told x b (asked.Nothing line.Memory) s none is = before_writing told x b s none is
begun_before told x b _ s none is = tt
