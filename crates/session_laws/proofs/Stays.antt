-- A session that fits a history fits a longer one whose new entries are about others.
use Rattle.std.proofs.Common.{◌≡◌, ℕ, ◌+◌, ◌≤◌, List, [], ◌∷◌, ◌++◌, Bool, true, false, not, refl, sym, subst, ◌∙◌, ap, arith, length, length-append, drop}
use Rattle.std.specs.Prelude.{Option, Some, None, IfSome, ◌==◌, ◌&&◌}
use Rattle.std.specs.List.{list_all}
use Rattle.std.proofs.lemmas.Bool.{and_parts}
use Rattle.blob.specs.declared.sum.Sum256.{Sum256}
use Rattle.blob.specs.Records.{MediumView, TapeRecords}
use Rattle.cta_site.specs.declared.site.Site.{Site}
use Rattle.cta_model.specs.declared.answers.Answer.{Answer}
use Rattle.cta_model.specs.declared.answers.Answer.TheVariants as answer
use Rattle.cta_model.specs.declared.asks.Ask.{Ask}
use Rattle.cta_model.specs.declared.asks.Ask.TheVariants as ask
use Rattle.cta_model.specs.declared.asks.Direction.{Direction}
use Rattle.cta_model.specs.declared.asks.Direction.TheVariants as direction
use Rattle.cta_model.specs.declared.asks.Fault.{Fault}
use Rattle.cta_model.specs.declared.asks.Item.{Item}
use Rattle.cta_model.specs.declared.asks.Job.{Job}
use Rattle.cta_model.specs.declared.hands.Hand.{Hand}
use Rattle.cta_model.specs.Answers.{is_known, names_twice}
use Rattle.cta_model.specs.Files.{sum_of}
use Rattle.cta_model.specs.History.{History}
use Rattle.cta_model.specs.Legal.{IsFaultOf, IsLegal, IsMountOf}
use Rattle.cta_model.specs.Media.{IsMediumOf, IsTrueMedium}
use Rattle.cta_model.specs.Mounts.{asked_mount, batch_in, batch_or, claimed_items, has_job, is_open, item_jobs, last_batch, mount_of, tape_by, tape_of_mount, without_jobs}
use Rattle.cta_model.specs.Tapes.{tape_items}
use Rattle.cta_laws.specs.Mounts.{are_about_others, IsMountKept}
use Rattle.cta_laws.proofs.MediaLaw.{mounted_stays_true}
use Rattle.cta_laws.proofs.FileFrames.{sum_older}
use Rattle.cta_laws.proofs.MountLaw.{not_is, open_mount_stays}
use Rattle.cta_laws.proofs.OpenMounts.{mount_older, open_older}
use Rattle.drive_session.specs.declared.states.Asked.{Asked}
use Rattle.drive_session.specs.declared.states.Batch.{Batch}
use Rattle.drive_session.specs.declared.states.Mounted.{Mounted}
use Rattle.drive_session.specs.declared.states.State.{State}
use Rattle.drive_session.specs.declared.states.State.TheVariants as state
use Rattle.drive_session.specs.Fits.{FitsAsk, FitsClaim, FitsEnd, FitsFailed, FitsFlushed, FitsRecalled, FitsResolved, IsAt, IsBatch, IsFlushing, IsMountAt, IsReading, IsResolving, IsRest, IsUnread, IsWriting}
use Rattle.drive_session.specs.Records.{AreFlushed, AreNumbered, AreOfFiles, AreWritten}
use Rattle.session_laws.specs.Laws.{AreOthersThan, AskingSessionStays, SessionStays}

-- what a session reads of a history about its mount and its tape is the same in the longer one, and a medium of the tape stays true
pub record IsKeptFor (g h : History) (m v : ℕ) : Type 0 where
  pub still : is_open g m ≡ true
  pub mount : mount_of g m ≡ mount_of h m
  pub claims : claimed_items g m ≡ claimed_items h m
  pub last : last_batch g m ≡ last_batch h m
  pub items : tape_items g v ≡ tape_items h v
  pub truth : (t : TapeRecords) → IsTrueMedium h v t → IsTrueMedium g v t
  pub longer : length h ≤ length g
  pub files : (f : ℕ) → f ≤ length h → sum_of g f ≡ sum_of h f

-- ---- an open mount is kept

sum_long : (newer h : History) (f : ℕ) → f ≤ length h → sum_of (newer ++ h) f ≡ sum_of h f
sum_long [] h f low = refl
sum_long (e ∷ newer) h f low = sum_older e (newer ++ h) f (omega (arith, length-append newer h)) ∙ sum_long newer h f low

mount_long : (newer h : History) (m : ℕ) → m ≤ length h → mount_of (newer ++ h) m ≡ mount_of h m
mount_long [] h m low = refl
mount_long (e ∷ newer) h m low = mount_older e (newer ++ h) m (omega (arith, length-append newer h)) ∙ mount_long newer h m low

other_batch : (k : Ask) (a : Answer) (m : ℕ) → (asked_mount k == m) ≡ false → batch_in k a m ≡ None
other_batch (ask.Claim k) (answer.Batch items evicted) m d = rw d refl
other_batch _ a m d = refl

last_long : (newer h : History) (m : ℕ) → are_about_others m newer ≡ true → last_batch (newer ++ h) m ≡ last_batch h m
last_long [] h m others = refl
last_long (e ∷ newer) h m others =
    let parts = and_parts _ _ others in
    let none : batch_in e.ask e.answer m ≡ None = other_batch e.ask e.answer m (not_is _ parts.0) in
    ap (λ o. batch_or o (last_batch (newer ++ h) m)) none ∙ last_long newer h m parts.1

tape_is : (h : History) (d m : ℕ) (way : Direction) (v : ℕ) → IsMountAt h d m way v → tape_of_mount h m ≡ v
tape_is h d m way v is = ap tape_by is.mount

pub kept_for : (site : Site) (newer h : History) (d m : ℕ) (way : Direction) (v : ℕ) → IsLegal site (newer ++ h) → are_about_others m newer ≡ true → IsMountAt h d m way v → IsKeptFor (newer ++ h) h m v
kept_for site newer h d m way v legal others is =
    let kept : IsMountKept (newer ++ h) h m = open_mount_stays site newer h m legal is.still others in
    let tape : tape_of_mount h m ≡ v = tape_is h d m way v is in
    record {
      still = kept.still_open;
      mount = mount_long newer h m (open_older h m is.still);
      claims = kept.same_claims;
      last = last_long newer h m others;
      items = subst (λ (u : ℕ). tape_items (newer ++ h) u ≡ tape_items h u) tape kept.same_items;
      truth = λ t. subst (λ (u : ℕ). IsTrueMedium h u t → IsTrueMedium (newer ++ h) u t) tape (mounted_stays_true site newer h m t legal is.still others);
      longer = omega (arith, length-append newer h);
      files = λ f low. sum_long newer h f low;
    }

-- ---- what a state says

kept_records : (g h : History) (m v : ℕ) (o : Option TapeRecords) → IsKeptFor g h m v → IfSome o (IsTrueMedium h v) → IfSome o (IsTrueMedium g v)
kept_records g h m v None kept is = tt
kept_records g h m v (Some t) kept is = kept.truth t is

kept_medium : (g h : History) (m v : ℕ) (x : MediumView) → IsKeptFor g h m v → IsMediumOf h v x → IsMediumOf g v x
kept_medium g h m v x kept is = record { label = is.label; truth = kept_records g h m v x.records kept is.truth }

kept_mount : (g h : History) (d m : ℕ) (way : Direction) (v : ℕ) → IsKeptFor g h m v → IsMountAt h d m way v → IsMountAt g d m way v
kept_mount g h d m way v kept is = record { still = kept.still; mount = kept.mount ∙ is.mount }

pub kept_files : (g h : History) (items : List Item) → length h ≤ length g → ((f : ℕ) → f ≤ length h → sum_of g f ≡ sum_of h f) → AreOfFiles h items → AreOfFiles g items
kept_files g h [] longer files is = tt
kept_files g h (i ∷ items) longer files is = ((let a = is.0 in omega (arith, a, longer)), is.1 ∙ sym (files i.job.file is.0), kept_files g h items longer files is.2)

kept_at : {M : Type 0} (told : M → MediumView) (g h : History) (d : ℕ) (x : Mounted M) → IsKeptFor g h x.mount x.tape → IsAt told h d x → IsAt told g d x
kept_at told g h d x kept is = record { mount = kept_mount g h d x.mount x.direction x.tape kept is.mount; medium = kept_medium g h x.mount x.tape (told x.medium) kept is.medium }

kept_rest : {M : Type 0} (told : M → MediumView) (g h : History) (d : ℕ) (x : Mounted M) → IsKeptFor g h x.mount x.tape → IsRest told h d x → IsRest told g d x
kept_rest told g h d x kept is = record { at = kept_at told g h d x kept is.at; claims = kept.claims ∙ is.claims }

same_count : (g h : History) (m v : ℕ) → IsKeptFor g h m v → length (tape_items h v) ≡ length (tape_items g v)
same_count g h m v kept = sym (ap length kept.items)

kept_batch : {M : Type 0} (told : M → MediumView) (g h : History) (d : ℕ) (x : Mounted M) (items : List Item) (sums : List Sum256) → IsKeptFor g h x.mount x.tape → IsBatch told h d x items sums → IsBatch told g d x items sums
kept_batch told g h d x items sums kept is = record {
  at = kept_at told g h d x kept is.at;
  way = is.way;
  some = is.some;
  claims = kept.claims ∙ is.claims;
  last = kept.last ∙ is.last;
  once = is.once;
  numbered = subst (λ (n : ℕ). AreNumbered (n + 1) items) (same_count g h x.mount x.tape kept) is.numbered;
  files = kept_files g h items kept.longer kept.files is.files;
  blobs = is.blobs;
}

kept_writing : {M : Type 0} (told : M → MediumView) (g h : History) (d : ℕ) (x : Mounted M) (b : Batch) → IsKeptFor g h x.mount x.tape → IsWriting told h d x b → IsWriting told g d x b
kept_writing told g h d x b kept is = record {
  batch = kept_batch told g h d x b.items.items _ kept is.batch;
  filled = is.filled;
  written = subst (λ (n : ℕ). IfSome (told x.medium).records (AreWritten n b.items.items b.at)) (same_count g h x.mount x.tape kept) is.written;
}

kept_unread : {M : Type 0} (told : M → MediumView) (g h : History) (d : ℕ) (x : Mounted M) (items : List Item) → IsKeptFor g h x.mount x.tape → IsUnread told h d x items → IsUnread told g d x items
kept_unread told g h d x items kept is = record { at = kept_at told g h d x kept is.at; way = is.way; once = is.once; files = kept_files g h items kept.longer kept.files is.files; safe = is.safe }

kept_reading : {M : Type 0} (told : M → MediumView) (g h : History) (d : ℕ) (x : Mounted M) (items : List Item) → IsKeptFor g h x.mount x.tape → IsReading told h d x items → IsReading told g d x items
kept_reading told g h d x items kept is = record { unread = kept_unread told g h d x items kept is.unread; claims = kept.claims ∙ is.claims }

pub session_stays : {M : Type 0} (told : M → MediumView) → SessionStays told
session_stays told site newer h d state.Free legal others is = record { known = is.known; state = tt }
session_stays told site newer h d (state.Held x) legal others is =
    let r : IsRest told h d x = is.state in
    record { known = is.known; state = kept_rest told (newer ++ h) h d x (kept_for site newer h d x.mount x.direction x.tape legal others r.at.mount) r }
session_stays told site newer h d (state.Ready x) legal others is =
    let r : IsRest told h d x = is.state in
    record { known = is.known; state = kept_rest told (newer ++ h) h d x (kept_for site newer h d x.mount x.direction x.tape legal others r.at.mount) r }
session_stays told site newer h d (state.Claimed x items blobs) legal others is =
    let r : IsBatch told h d x items.items _ = is.state in
    record { known = is.known; state = kept_batch told (newer ++ h) h d x items.items _ (kept_for site newer h d x.mount x.direction x.tape legal others r.at.mount) r }
session_stays told site newer h d (state.Writing x b) legal others is =
    let r : IsWriting told h d x b = is.state in
    record { known = is.known; state = kept_writing told (newer ++ h) h d x b (kept_for site newer h d x.mount x.direction x.tape legal others r.batch.at.mount) r }
session_stays told site newer h d (state.Reading x items at) legal others is =
    let r : IsReading told h d x (drop at items.items) = is.state in
    record { known = is.known; state = kept_reading told (newer ++ h) h d x (drop at items.items) (kept_for site newer h d x.mount x.direction x.tape legal others r.unread.at.mount) r }
session_stays told site newer h d (state.Leaving x) legal others is =
    let r : IsRest told h d x = is.state in
    record { known = is.known; state = kept_rest told (newer ++ h) h d x (kept_for site newer h d x.mount x.direction x.tape legal others r.at.mount) r }

-- ---- with an open ask

same_known : (g h : History) (m : ℕ) (jobs : List Job) → is_open g m ≡ is_open h m → claimed_items g m ≡ claimed_items h m → is_known g m jobs ≡ is_known h m jobs
same_known g h m jobs still claims = λ i. known_by (still i) (claims i) jobs
  where
    known_by : Bool → List Item → List Job → Bool
    known_by b items jobs = b && (list_all (λ j. has_job j (item_jobs items)) jobs && not (names_twice jobs))

kept_resolving : (g h : History) (m v : ℕ) (jobs : List Job) (rest : List Item) → is_open h m ≡ true → IsKeptFor g h m v → IsResolving h m jobs rest → IsResolving g m jobs rest
kept_resolving g h m v jobs rest still kept is = record {
  known = same_known g h m jobs (kept.still ∙ sym still) kept.claims ∙ is.known;
  left = ap (without_jobs jobs) kept.claims ∙ is.left;
}

kept_flushing : {M : Type 0} (told : M → MediumView) (g h : History) (d : ℕ) (x : Mounted M) (items : List Item) → IsKeptFor g h x.mount x.tape → IsFlushing told h d x items → IsFlushing told g d x items
kept_flushing told g h d x items kept is = record {
  at = kept_at told g h d x kept is.at;
  way = is.way;
  resolves = kept_resolving g h x.mount x.tape _ [] is.at.mount.still kept is.resolves;
  last = kept.last ∙ is.last;
  numbered = subst (λ (n : ℕ). AreNumbered (n + 1) items) (same_count g h x.mount x.tape kept) is.numbered;
  files = kept_files g h items kept.longer kept.files is.files;
  safe = subst (λ (n : ℕ). IfSome (told x.medium).records (AreFlushed n items)) (same_count g h x.mount x.tape kept) is.safe;
}

-- what a state with an open Failed or Recalled says of its mount
resolved_stays : {M : Type 0} (told : M → MediumView) (site : Site) (newer h : History) (d m : ℕ) (jobs : List Job) (s : State M) → IsLegal site (newer ++ h) → are_about_others m newer ≡ true → FitsResolved told h d m jobs s → FitsResolved told (newer ++ h) d m jobs s
resolved_stays told site newer h d m jobs (state.Leaving x) legal others is =
    let here : are_about_others x.mount newer ≡ true = subst (λ (k : ℕ). are_about_others k newer ≡ true) is.0 others in
    let kept = kept_for site newer h d x.mount x.direction x.tape legal here is.2.mount in (
      is.0,
      is.1,
      kept_at told (newer ++ h) h d x kept is.2,
      subst (λ (k : ℕ). IsResolving (newer ++ h) k jobs []) (sym is.0) (kept_resolving (newer ++ h) h x.mount x.tape jobs [] is.2.mount.still kept (subst (λ (k : ℕ). IsResolving h k jobs []) is.0 is.3)),
    )
resolved_stays told site newer h d m jobs (state.Reading x items at) legal others is =
    let here : are_about_others x.mount newer ≡ true = subst (λ (k : ℕ). are_about_others k newer ≡ true) is.0 others in
    let kept = kept_for site newer h d x.mount x.direction x.tape legal here is.1.at.mount in (
      is.0,
      kept_unread told (newer ++ h) h d x (drop at items.items) kept is.1,
      subst (λ (k : ℕ). IsResolving (newer ++ h) k jobs (drop at items.items)) (sym is.0)
          (kept_resolving (newer ++ h) h x.mount x.tape jobs (drop at items.items) is.1.at.mount.still kept (subst (λ (k : ℕ). IsResolving h k jobs (drop at items.items)) is.0 is.2)),
    )
resolved_stays told site newer h d m jobs state.Free legal others is = absurd is
resolved_stays told site newer h d m jobs (state.Held x) legal others is = absurd is
resolved_stays told site newer h d m jobs (state.Ready x) legal others is = absurd is
resolved_stays told site newer h d m jobs (state.Claimed x items blobs) legal others is = absurd is
resolved_stays told site newer h d m jobs (state.Writing x b) legal others is = absurd is

-- the mount of what is resolved is open
pub resolved_open : {M : Type 0} (told : M → MediumView) (h : History) (d m : ℕ) (jobs : List Job) (s : State M) → FitsResolved told h d m jobs s → is_open h m ≡ true
resolved_open told h d m jobs (state.Leaving x) is = subst (λ (k : ℕ). is_open h k ≡ true) (sym is.0) is.2.mount.still
resolved_open told h d m jobs (state.Reading x items at) is = subst (λ (k : ℕ). is_open h k ≡ true) (sym is.0) is.1.at.mount.still
resolved_open told h d m jobs state.Free is = absurd is
resolved_open told h d m jobs (state.Held x) is = absurd is
resolved_open told h d m jobs (state.Ready x) is = absurd is
resolved_open told h d m jobs (state.Claimed x items blobs) is = absurd is
resolved_open told h d m jobs (state.Writing x b) is = absurd is

claim_stays : {M : Type 0} (told : M → MediumView) (site : Site) (newer h : History) (d : ℕ) (s : State M) (w : Asked) (m : ℕ) (q : Hand M) → IsLegal site (newer ++ h) → are_about_others m newer ≡ true → FitsClaim told h d s w m q → FitsClaim told (newer ++ h) d s w m q
claim_stays told site newer h d s w m q legal others is =
    let x = is.mounted in
    let here : are_about_others x.mount newer ≡ true = subst (λ (k : ℕ). are_about_others k newer ≡ true) is.mount others in
    record {
      mounted = x;
      state = is.state;
      asked = is.asked;
      hand = is.hand;
      mount = is.mount;
      rest = kept_rest told (newer ++ h) h d x (kept_for site newer h d x.mount x.direction x.tape legal here is.rest.at.mount) is.rest;
    }

flushed_stays : {M : Type 0} (told : M → MediumView) (site : Site) (newer h : History) (d : ℕ) (s : State M) (w : Asked) (m : ℕ) (items : List Item) (q : Hand M) → IsLegal site (newer ++ h) → are_about_others m newer ≡ true → FitsFlushed told h d s w m items q → FitsFlushed told (newer ++ h) d s w m items q
flushed_stays told site newer h d s w m items q legal others is =
    let x = is.mounted in
    let here : are_about_others x.mount newer ≡ true = subst (λ (k : ℕ). are_about_others k newer ≡ true) is.mount others in
    record {
      mounted = x;
      state = is.state;
      asked = is.asked;
      hand = is.hand;
      mount = is.mount;
      batch = kept_flushing told (newer ++ h) h d x items (kept_for site newer h d x.mount x.direction x.tape legal here is.batch.at.mount) is.batch;
    }

-- an open mount is the same in a longer history
same_mount : (newer h : History) (m : ℕ) → is_open h m ≡ true → mount_of (newer ++ h) m ≡ mount_of h m
same_mount newer h m still = mount_long newer h m (open_older h m still)

recalled_stays : {M : Type 0} (told : M → MediumView) (site : Site) (newer h : History) (d : ℕ) (s : State M) (w : Asked) (m : ℕ) (job : Job) (q : Hand M) → IsLegal site (newer ++ h) → are_about_others m newer ≡ true → FitsRecalled told h d s w m job q → FitsRecalled told (newer ++ h) d s w m job q
recalled_stays told site newer h d s w m job q legal others is =
    let still = resolved_open told h d m (job ∷ []) s is.resolved in
    record {
      fseq = is.fseq;
      content = is.content;
      asked = is.asked;
      hand = is.hand;
      file = ((let low = is.file.0 in omega (arith, low, length-append newer h)), is.file.1 ∙ sym (sum_long newer h job.file is.file.0));
      way = subst (λ o. IsMountOf direction.Retrieve o) (sym (same_mount newer h m still)) is.way;
      resolved = resolved_stays told site newer h d m (job ∷ []) s legal others is.resolved;
    }

failed_stays : {M : Type 0} (told : M → MediumView) (site : Site) (newer h : History) (d : ℕ) (s : State M) (w : Asked) (m : ℕ) (f : Fault) (charged returned : List Job) (q : Hand M) → IsLegal site (newer ++ h) → are_about_others m newer ≡ true
    → FitsFailed told h d s w m f charged returned q → FitsFailed told (newer ++ h) d s w m f charged returned q
failed_stays told site newer h d s w m f charged returned q legal others is =
    let still = resolved_open told h d m (charged ++ returned) s is.resolved in
    record {
      outcome = is.outcome;
      asked = is.asked;
      hand = is.hand;
      cause = subst (λ o. IsFaultOf f o) (sym (same_mount newer h m still)) is.cause;
      some = is.some;
      resolved = resolved_stays told site newer h d m (charged ++ returned) s legal others is.resolved;
    }

end_stays : {M : Type 0} (told : M → MediumView) (site : Site) (newer h : History) (d : ℕ) (s : State M) (w : Asked) (m : ℕ) (f : Option Fault) (q : Hand M) → IsLegal site (newer ++ h) → are_about_others m newer ≡ true → FitsEnd told h d s w m f q → FitsEnd told (newer ++ h) d s w m f q
end_stays told site newer h d s w m f q legal others is =
    let kept = kept_for site newer h d m is.way is.tape legal others is.mount in
    record {
      outcome = is.outcome;
      medium = is.medium;
      way = is.way;
      tape = is.tape;
      state = is.state;
      asked = is.asked;
      hand = is.hand;
      cause = is.cause;
      mount = kept_mount (newer ++ h) h d m is.way is.tape kept is.mount;
      claims = kept.claims ∙ is.claims;
      truth = kept_medium (newer ++ h) h m is.tape (told is.medium) kept is.truth;
    }

ask_stays : {M : Type 0} (told : M → MediumView) (site : Site) (newer h : History) (d : ℕ) (s : State M) (w : Asked) (a : Ask) (q : Hand M) → IsLegal site (newer ++ h) → AreOthersThan a newer → FitsAsk told h d s w a q → FitsAsk told (newer ++ h) d s w a q
ask_stays told site newer h d s w (ask.Next k) q legal others is = is
ask_stays told site newer h d s w (ask.Claim m) q legal others is = claim_stays told site newer h d s w m q legal others is
ask_stays told site newer h d s w (ask.Flushed m items) q legal others is = flushed_stays told site newer h d s w m items.items q legal others is
ask_stays told site newer h d s w (ask.Recalled m job) q legal others is = recalled_stays told site newer h d s w m job q legal others is
ask_stays told site newer h d s w (ask.Failed m f charged returned) q legal others is = failed_stays told site newer h d s w m f charged.items returned.items q legal others is
ask_stays told site newer h d s w (ask.End m f) q legal others is = end_stays told site newer h d s w m f q legal others is
ask_stays told site newer h d s w _ q legal others is = absurd is

pub asking_session_stays : {M : Type 0} (told : M → MediumView) → AskingSessionStays told
asking_session_stays told site newer h d s w a q legal others is = record { known = is.known; asked = ask_stays told site newer h d s w a q legal others is.asked }
