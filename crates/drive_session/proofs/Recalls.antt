-- What a read leaves of a session that fits.
use Rattle.std.proofs.Common.{◌≡◌, ℕ, ◌+◌, List, [], ◌∷◌, Bool, true, false, refl, sym, subst, ◌∙◌, ap, arith, length, take, drop}
use Rattle.std.specs.Prelude.{Option, Some, None, IfSome, IsSome, Ok, slice_get, ◌||◌, ◌≢◌}
use Rattle.std.proofs.lemmas.Option.{slice_get_within}
use Rattle.std.specs.declared.sync.Arc.{Arc}
use Rattle.std.specs.declared.alloc.Global.{Global}
use Rattle.blob.specs.declared.blobs.Blob.{Blob}
use Rattle.blob.specs.declared.sum.Sum256.{Sum256}
use Rattle.blob.specs.Sums.{sum_of as sum_of_bytes}
use Rattle.blob.specs.Records.{MediumView, TapeRecords}
use Rattle.cta_site.specs.declared.site.Site.{Site}
use Rattle.cta_site.specs.Listed.{Listed}
use Rattle.cta_model.specs.declared.asks.Ask.TheVariants as ask
use Rattle.cta_model.specs.declared.asks.Fault.{Fault}
use Rattle.cta_model.specs.declared.asks.Item.{Item}
use Rattle.cta_model.specs.declared.asks.Job.{Job}
use Rattle.cta_model.specs.declared.hands.Hand.TheVariants as hand
use Rattle.cta_model.specs.Answers.{names_twice}
use Rattle.cta_model.specs.Hands.{IsOfFile, sum_of_blob}
use Rattle.cta_model.specs.History.{History}
use Rattle.cta_model.specs.declared.asks.Direction.TheVariants as direction
use Rattle.cta_model.specs.Legal.{IsFaultOf, IsMountOf}
use Rattle.cta_model.specs.Media.{IsMediumOf}
use Rattle.cta_model.specs.Mounts.{item_jobs, has_job, same_job, without_jobs, claimed_items, is_open, mount_of}
use Rattle.media.specs.Drives.{DriveView}
use Rattle.media.specs.Reads.{HasRead, MayRead}
use Rattle.drive_session.specs.declared.reports.Done.{Done}
use Rattle.drive_session.specs.declared.reports.Done.TheVariants as done
use Rattle.drive_session.specs.declared.reports.StepLine.TheVariants as line
use Rattle.drive_session.specs.declared.states.Asked.TheVariants as asked
use Rattle.drive_session.specs.declared.states.Mounted.{Mounted}
use Rattle.drive_session.specs.declared.states.Outcome.{Outcome}
use Rattle.drive_session.specs.declared.states.State.TheVariants as state
use Rattle.drive_session.specs.declared.states.Step.{Step}
use Rattle.drive_session.specs.Answers.{line_of}
use Rattle.drive_session.specs.Fits.{IsReading, IsResolving, FitsState, FitsOpen, FitsResolved}
use Rattle.drive_session.specs.Lawful.{Again, Follows, IsSaid, fseqs, reading_of}
use Rattle.drive_session.specs.Records.{AreOfFiles, AreSafe}
use Rattle.drive_session.specs.Steps.{AreSameIf, FitsSome, HasDone, HasGiven, IsAskedAfter, IsChargedFor, IsLeft, IsStep, LeadsOn, NoMismatch, WasRead, read_charges}
use Rattle.drive_session.specs.Table.{Reading, heard, held_mount, read_row, says, unread_row}
use Rattle.drive_session.proofs.Lawful.{claim_leads, rest_standing}
use Rattle.drive_session.proofs.Lists.{drop_none, drop_some, one_map, pair_same}
use Rattle.drive_session.proofs.Resolving.{same_self, same_sym}
use Rattle.drive_session.proofs.Steps.{after, goes_way}
use Rattle.drive_session.proofs.Table.{read_failed_row, read_out_row, read_there}
use Rattle.drive_session.proofs.Tapes.{may_read, read_of}

-- a mount with nothing left to read claims nothing
pub rest_fits : {M : Type 0} (told : M → MediumView) (site : Site) (h : History) (d : ℕ) (x : Mounted M) (items : Listed Item) (at : ℕ) → slice_get items.items at ≡ None → FitsState told site h d (state.Reading x items at) → FitsState told site h d (state.Ready x)
rest_fits told site h d x items at none is =
    let r : IsReading told h d x (drop at items.items) = is.state in
    record { known = is.known; state = record { at = r.unread.at; claims = r.claims ∙ drop_none items.items at none } }

or_parts : (b c : Bool) → (b || c) ≡ false → (b ≡ false) × (c ≡ false)
or_parts true c e = absurd (cc)
or_parts false c e = (refl, e)

-- the items of other jobs stay
others_left : (j : Job) (items : List Item) → has_job j (item_jobs items) ≡ false → without_jobs (j ∷ []) items ≡ items
others_left j [] e = refl
others_left j (i ∷ items) e =
    let w = or_parts (same_job j i.job) (has_job j (item_jobs items)) e in
    let other : same_job i.job j ≡ false = same_sym i.job j ∙ w.0 in
    rw other (ap (λ xs. i ∷ xs) (others_left j items w.1))

first_left : (i : Item) (items : List Item) → names_twice (item_jobs (i ∷ items)) ≡ false → without_jobs (i.job ∷ []) (i ∷ items) ≡ items
first_left i items once = rw (same_self i.job) (others_left i.job items (or_parts (has_job i.job (item_jobs items)) _ once).0)

read_resolves : (h : History) (m : ℕ) (i : Item) (rest all : List Item) → all ≡ i ∷ rest → is_open h m ≡ true → claimed_items h m ≡ all → names_twice (item_jobs all) ≡ false → IsResolving h m (i.job ∷ []) rest
read_resolves h m i rest all ea still claims once = record {
  known = rw (still, claims, ea, same_self i.job) refl;
  left = rw (claims, ea) (first_left i rest (rw ea at once));
}

-- the item that was read is named, and the others are left
pub read_left : {M : Type 0} (told : M → MediumView) (h : History) (d : ℕ) (x : Mounted M) (m : M) (items : Listed Item) (at : ℕ) (i : Item) → slice_get items.items at ≡ Some i → told m ≡ told x.medium → IsReading told h d x (drop at items.items)
    → FitsResolved told h d x.mount (i.job ∷ []) (state.Reading (after x m) items (at + 1))
read_left told h d x m items at i there same is =
    let split : drop at items.items ≡ i ∷ drop (at + 1) items.items = drop_some items.items at i there in
    let once : names_twice (item_jobs (i ∷ drop (at + 1) items.items)) ≡ false = subst (λ xs. names_twice (item_jobs xs) ≡ false) split is.unread.once in
    let files : AreOfFiles h (i ∷ drop (at + 1) items.items) = subst (λ xs. AreOfFiles h xs) split is.unread.files in (
      refl,
      record {
        at = record { mount = is.unread.at.mount; medium = subst (IsMediumOf h x.tape) (sym same) is.unread.at.medium };
        way = is.unread.way;
        once = (or_parts (has_job i.job (item_jobs (drop (at + 1) items.items))) _ once).1;
        files = files.2;
        safe = later (told x.medium).records (told m).records (ap (λ (m : MediumView). m.records) same) split is.unread.safe;
      },
      read_resolves h x.mount i (drop (at + 1) items.items) (drop at items.items) split is.unread.at.mount.still is.claims is.unread.once,
    )
  where
    later : (o n : Option TapeRecords) → n ≡ o → drop at items.items ≡ i ∷ drop (at + 1) items.items → IfSome o (λ t. AreSafe t (drop at items.items)) → IfSome n (λ t. AreSafe t (drop (at + 1) items.items))
    later None n e split is = rw e tt
    later (Some t) n e split is = rw e (subst (λ xs. AreSafe t xs) split is).2

file_of : (h : History) (i : Item) (rest all : List Item) (sum : Sum256) → all ≡ i ∷ rest → AreOfFiles h all → sum ≡ i.sum → IsOfFile h i.job.file sum
file_of h i rest all sum ea is same = let w = rw ea at is in (w.0, same ∙ w.1)

pub recall_fits : {M : Type 0} (told : M → MediumView) (d : ℕ) (x : Mounted M) (m : M) (items : Listed Item) (at : ℕ) (i : Item) (n : ℕ) (b : Arc Blob Global) → slice_get items.items at ≡ Some i → told m ≡ told x.medium → sum_of_blob b ≡ i.sum
    → (site : Site) (h : History) → FitsState told site h d (state.Reading x items at) → FitsOpen told site h d (state.Reading (after x m) items (at + 1)) (asked.Recalled n) (ask.Recalled x.mount i.job) (hand.Blob b)
recall_fits told d x m items at i n b there same sum site h fits =
    let r : IsReading told h d x (drop at items.items) = fits.state in
    record {
      known = fits.known;
      asked = record {
        fseq = n;
        content = b;
        asked = refl;
        hand = refl;
        file = file_of h i _ _ (sum_of_blob b) (drop_some items.items at i there) r.unread.files sum;
        way = goes_way (mount_of h x.mount) d x.direction direction.Retrieve x.tape r.unread.at.mount.mount r.unread.way;
        resolved = read_left told h d x m items at i there same r;
      };
    }

-- the fSeq of the next item may be read
pub read_place : {M : Type 0} (told : M → MediumView) (d : ℕ) (x : Mounted M) (items : Listed Item) (at : ℕ) (i : Item) → slice_get items.items at ≡ Some i → FitsSome told d (state.Reading x items at) → MayRead i.fseq (told x.medium)
read_place told d x items at i there some =
    let r : IsReading told some.1.0 d x (drop at items.items) = some.1.1.state in
    may_read (told x.medium) i (drop (at + 1) items.items) (drop at items.items) (drop_some items.items at i there) r.unread.safe

-- what was read of the next item is what the drive gives of it
pub was_read : {M : Type 0} (told : M → MediumView) (d : ℕ) (x : Mounted M) (items : Listed Item) (at : ℕ) (i : Item) (old : DriveView) (bytes : List ℕ) (sum : Sum256) → slice_get items.items at ≡ Some i → FitsSome told d (state.Reading x items at)
    → sum_of_bytes bytes ≡ sum → HasRead old (told x.medium) i.fseq (Ok bytes) → WasRead (told x.medium) old i sum
was_read told d x items at i old bytes sum there some is given =
    let r : IsReading told some.1.0 d x (drop at items.items) = some.1.1.state in
    (bytes, is, read_of old (told x.medium) i (drop (at + 1) items.items) (drop at items.items) bytes (drop_some items.items at i there) r.unread.safe given)

-- an honest drive that was told to give another sum gave none of a medium that tells
pub no_mismatch : (m : MediumView) (i : Item) (old : DriveView) (found wanted : Sum256) → WasRead m old i found → wanted ≡ i.sum → found ≢ wanted → old.honest ≡ true → IsSome m.records → NoMismatch (Some (done.Mismatch found wanted))
no_mismatch m i old found wanted was want other h tells = other (sym was.1 ∙ (was.2 tells).honest h ∙ sym want)

-- what is told of a read that succeeded
pub given_same : (m : MediumView) (old : DriveView) (o : Option Item) (i : Item) (e : Option Done) → o ≡ Some i → HasGiven m old (Some i) e → HasGiven m old o e
given_same m old o i e there is = subst (λ o. HasGiven m old o e) (sym there) is

-- the step of a batch of which nothing is left to read
pub rest_step : {M : Type 0} (told : M → MediumView) (d : ℕ) (x : Mounted M) (items : Listed Item) (at : ℕ) (old : DriveView) (s : Step M) → slice_get items.items at ≡ None → FitsSome told d (state.Reading x items at) → old.loaded ≡ true
    → s ≡ record { state = state.Ready x; asked = asked.Claim; report = record { device = None; ask = Some (ask.Claim x.mount, hand.Nothing) } } → IsStep told d (state.Reading x items at) old old s
rest_step told d x items at old s none some loaded is =
    let r : IsReading told some.1.0 d x (drop at items.items) = some.1.1.state in
    subst (λ s. IsStep told d (state.Reading x items at) old old s) (sym is)
    (record {
      device = refl;
      read = (subst (λ o. HasGiven (told x.medium) old o None) (sym none) tt, λ h t. tt);
      left = refl;
      loaded = loaded;
      waits = refl;
      table = read_out_row (held_mount x) items.items at none;
      asked = refl;
      charged = tt;
      safe = tt;
      kept = tt;
      lawful = subst (λ z. LeadsOn z asked.Claim (state.Ready x) None) (rest_standing x.direction (drop at items.items) (drop_none items.items at none) r.unread.way) (claim_leads x);
      fits = λ site h fits. (let r = rest_fits told site h d x items at none fits in record { known = r.known; asked = record { mounted = x; state = refl; asked = refl; hand = refl; mount = refl; rest = r.state } });
    })

-- a read that wanted memory leaves a session that fits
read_waits : {M : Type 0} (told : M → MediumView) (d : ℕ) (x : Mounted M) (m : M) (items : Listed Item) (at : ℕ) → told m ≡ told x.medium
    → (site : Site) (h : History) → FitsState told site h d (state.Reading x items at) → FitsState told site h d (state.Reading (after x m) items at)
read_waits told d x m items at same site h fits =
    let r : IsReading told h d x (drop at items.items) = fits.state in
    record {
      known = fits.known;
      state = record {
        unread = record {
          at = record { mount = r.unread.at.mount; medium = subst (IsMediumOf h x.tape) (sym same) r.unread.at.medium };
          way = r.unread.way;
          once = r.unread.once;
          files = r.unread.files;
          safe = subst (λ (m : MediumView). IfSome m.records (λ t. AreSafe t (drop at items.items))) (sym same) r.unread.safe;
        };
        claims = r.claims;
      };
    }

-- the step of a read that wanted memory
pub waiting_step : {M : Type 0} (told : M → MediumView) (d : ℕ) (x : Mounted M) (m : M) (items : Listed Item) (at : ℕ) (i : Item) (e : Option Done) (old new : DriveView) (s : Step M)
    → slice_get items.items at ≡ Some i → told m ≡ told x.medium → HasDone old new e → new.loaded ≡ true → HasGiven (told x.medium) old (Some i) e → IsLeft e None (told x.medium) (told m) → NoMismatch e
    → read_row (held_mount x) items.items at i (heard (asked.Nothing line.Memory) e) ≡ says line.Memory (Reading (held_mount x) items.items at)
    → s ≡ record { state = state.Reading (after x m) items at; asked = asked.Nothing line.Memory; report = record { device = e; ask = None } } → IsStep told d (state.Reading x items at) old new s
waiting_step told d x m items at i e old new s there same device loaded given left none row is =
    subst (λ s. IsStep told d (state.Reading x items at) old new s) (sym is)
    (record {
      device = device;
      read = (given_same (told x.medium) old (slice_get items.items at) i e there given, λ h t. none);
      left = left;
      loaded = loaded;
      waits = refl;
      table = read_there (held_mount x) items.items at i _ there ∙ row;
      asked = tt;
      charged = tt;
      safe = tt;
      kept = (record { mount = refl; direction = refl; tape = refl; medium = same }, refl, refl, slice_get_within items.items at i there);
      lawful = λ a k. (Again _, tt);
      fits = read_waits told d x m items at same;
    })

-- the step of a read that failed or gave another sum
pub failed_step : {M : Type 0} (told : M → MediumView) (d : ℕ) (x : Mounted M) (m : M) (items : Listed Item) (at : ℕ) (i : Item) (f : Fault) (out : Done) (o : Outcome) (jobs : List Job) (old new : DriveView) (s : Step M)
    → slice_get items.items at ≡ Some i → told m ≡ told x.medium → jobs ≡ i.job ∷ [] → HasDone old new (Some out) → new.loaded ≡ true
    → HasGiven (told x.medium) old (Some i) (Some out) → (old.honest ≡ true → IsSome (told x.medium).records → NoMismatch (Some out)) → IsLeft (Some out) None (told x.medium) (told m)
    → ((h : History) → IsMountOf direction.Retrieve (mount_of h x.mount) → IsFaultOf f (mount_of h x.mount))
    → ((charged returned : Listed Job) → IsAskedAfter {M = M} (Some (ask.Failed x.mount f charged returned, hand.Nothing)) (Some out))
    → read_charges (item_jobs items.items) at f ≡ Some (i.job ∷ [], [])
    → read_row (held_mount x) items.items at i (Some out) ≡ unread_row (held_mount x) items.items at i f o
    → Follows (reading_of (fseqs (drop at items.items))) (line_of o) (reading_of (fseqs (drop (at + 1) items.items))) → IsSaid (line_of o) (Some out)
    → IsChargedFor (after x m) items (at + 1) jobs f out o s
    → IsStep told d (state.Reading x items at) old new s
failed_step told d x m items at i f out o jobs old new s there same ej device loaded given honest left cause after_it charges row follows told_so is =
    subst (λ s. IsStep told d (state.Reading x items at) old new s) (sym is.1.1.2)
    (record {
      device = device;
      read = (given_same (told x.medium) old (slice_get items.items at) i (Some out) there given, honest);
      left = left;
      loaded = loaded;
      waits = refl;
      table = read_there (held_mount x) items.items at i (Some out) there ∙ row ∙ read_failed_row (held_mount x) items.items at i f o jobs is.0.items is.1.0.items ej is.1.1.0 is.1.1.1;
      asked = after_it is.0 is.1.0;
      charged = charges ∙ pair_same _ _ _ _ (sym ej ∙ sym is.1.1.0) (sym is.1.1.1);
      safe = tt;
      kept = tt;
      lawful = λ a k. (follows, told_so);
      fits = λ site h fits. (let r : IsReading told h d x (drop at items.items) = fits.state in record {
        known = fits.known;
        asked = record {
          outcome = o;
          asked = refl;
          hand = refl;
          resolved = rw (is.1.1.0, is.1.1.1, ej) (read_left told h d x m items at i there same r);
          cause = cause h (subst (λ o. IsMountOf direction.Retrieve o) (sym r.unread.at.mount.mount) r.unread.way);
          some = (let n : length is.0.items ≡ 1 = ap length (is.1.1.0 ∙ ej) in omega (arith, n));
        };
      });
    })

pub read_charged : (items : List Item) (at : ℕ) (i : Item) → slice_get items at ≡ Some i → ◌≡◌ {A = Option (List Job × List Job)} (Some (take 1 (drop at (item_jobs items)), [])) (Some (i.job ∷ [], []))
read_charged items at i there = pair_same _ _ _ _ (one_map (λ (i : Item). i.job) items at i there) refl

pub are_same : (b : Bool) (x y : Sum256) → AreSameIf b x y → b ≡ true → x ≡ y
are_same true x y is e = is
are_same false x y is e = absurd (cc)

pub differ : (b : Bool) (x y : Sum256) → AreSameIf b x y → b ≡ false → x ≢ y
differ true x y is e = absurd (cc)
differ false x y is e = is
