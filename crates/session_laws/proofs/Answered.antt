-- After an answer a session fits the history behind the ask.
use Rattle.std.proofs.Common.{◌≡◌, ℕ, ◌+◌, ◌≤◌, ◌<◌, List, [], ◌∷◌, ◌++◌, Bool, true, false, refl, sym, subst, ◌∙◌, ap, arith, length, drop}
use Rattle.std.specs.Prelude.{Option, Some, None, IfSome, ◌==◌, if◌then◌else◌}
use Rattle.std.specs.List.{AllByRecursion}
use Rattle.std.proofs.lemmas.Bool.{eq-eqb}
use Rattle.blob.specs.Records.{MediumView, TapeRecords}
use Rattle.cta_site.specs.declared.site.Site.{Site}
use Rattle.cta_site.specs.Listed.{Listed}
use Rattle.cta_model.specs.declared.answers.Answer.{Answer}
use Rattle.cta_model.specs.declared.answers.Refusal.TheVariants as refusal
use Rattle.cta_model.specs.declared.asks.Ask.{Ask}
use Rattle.cta_model.specs.declared.asks.Ask.TheVariants as ask
use Rattle.cta_model.specs.declared.asks.Direction.{Direction}
use Rattle.cta_model.specs.declared.asks.Fault.{Fault}
use Rattle.cta_model.specs.declared.asks.Item.{Item}
use Rattle.cta_model.specs.declared.asks.Job.{Job}
use Rattle.cta_model.specs.declared.entries.Entry.{Entry}
use Rattle.cta_model.specs.declared.hands.Hand.{Hand}
use Rattle.cta_model.specs.Answers.{answer_of, is_accepted, is_known, is_last_batch, refuse}
use Rattle.cta_model.specs.History.{History}
use Rattle.cta_model.specs.Legal.{greatest_moment, IsLegal, new_entry}
use Rattle.cta_model.specs.Media.{IsMediumOf, IsTrueMedium}
use Rattle.cta_model.specs.Mounts.{claimed_items, is_open, item_jobs, last_batch, tape_by, tape_of_mount, without_jobs}
use Rattle.cta_model.specs.Tapes.{tape_items}
use Rattle.cta_model.proofs.Appends.{is_next}
use Rattle.cta_laws.specs.Media.{HasItem}
use Rattle.cta_laws.proofs.FileFrames.{sum_older}
use Rattle.cta_laws.proofs.MediaLaw.{flushed_is_true}
use Rattle.cta_laws.proofs.OpenMounts.{mount_older, open_older}
use Rattle.drive_session.specs.declared.states.Mounted.{Mounted}
use Rattle.drive_session.specs.declared.states.State.{State}
use Rattle.drive_session.specs.declared.states.State.TheVariants as state
use Rattle.drive_session.specs.declared.states.Asked.{Asked}
use Rattle.drive_session.specs.Fits.{FitsAsk, FitsIn, FitsResolved, IsAt, IsFlushing, IsMountAt, IsRest}
use Rattle.drive_session.specs.Records.{AreFlushed, AreOfFiles, AreRecorded}
use Rattle.session_laws.proofs.Fit.{both_true, fit_of, last_self, not_true, resolved_known}
use Rattle.session_laws.proofs.Stays.{kept_files}

-- ---- the entry of an ask

-- the history with the entry of an accepted ask is legal
pub legal_next : {M : Type 0} (told : M → MediumView) (site : Site) (h : History) (t d : ℕ) (s : State M) (w : Asked) (a : Ask) (q : Hand M) (b : Answer) → IsLegal site h → t ≤ greatest_moment → d < length site.drives.items → FitsAsk told h d s w a q → b ≡ answer_of site h t a → is_accepted b ≡ true
    → IsLegal site (new_entry h t a b ∷ h)
legal_next told site h t d s w a q b legal low known is answered accepted = (legal, is_next site h t a b legal low (fit_of told site h d s w a q known is).0 answered accepted)

-- what an entry that puts nothing on a mount's tape keeps
pub record IsKeptBy (e : Entry) (h : History) (m v : ℕ) : Type 0 where
  pub still : is_open (e ∷ h) m ≡ is_open h m
  pub legal : (t : TapeRecords) → IsTrueMedium h v t → IsTrueMedium (e ∷ h) v t

mount_next : (e : Entry) (h : History) (d m : ℕ) (way : Direction) (v : ℕ) → is_open (e ∷ h) m ≡ is_open h m → IsMountAt h d m way v → IsMountAt (e ∷ h) d m way v
mount_next e h d m way v still is = record { still = still ∙ is.still; mount = mount_older e h m (open_older h m is.still) ∙ is.mount }

records_next : (e : Entry) (h : History) (v : ℕ) (o : Option TapeRecords) → ((t : TapeRecords) → IsTrueMedium h v t → IsTrueMedium (e ∷ h) v t) → IfSome o (IsTrueMedium h v) → IfSome o (IsTrueMedium (e ∷ h) v)
records_next e h v None stays is = tt
records_next e h v (Some t) stays is = stays t is

medium_next : (e : Entry) (h : History) (v : ℕ) (x : MediumView) → ((t : TapeRecords) → IsTrueMedium h v t → IsTrueMedium (e ∷ h) v t) → IsMediumOf h v x → IsMediumOf (e ∷ h) v x
medium_next e h v x stays is = record { label = is.label; truth = records_next e h v x.records stays is.truth }

pub at_next : {M : Type 0} (told : M → MediumView) (e : Entry) (h : History) (d : ℕ) (x : Mounted M) → is_open (e ∷ h) x.mount ≡ is_open h x.mount → ((t : TapeRecords) → IsTrueMedium h x.tape t → IsTrueMedium (e ∷ h) x.tape t) → IsAt told h d x → IsAt told (e ∷ h) d x
at_next told e h d x still stays is = record { mount = mount_next e h d x.mount x.direction x.tape still is.mount; medium = medium_next e h x.tape (told x.medium) stays is.medium }

pub files_next : (e : Entry) (h : History) (items : List Item) → AreOfFiles h items → AreOfFiles (e ∷ h) items
files_next e h items is = kept_files (e ∷ h) h items (omega arith) (λ f low. sum_older e h f low) is

-- ---- after a Failed or a Recalled

pub resolved_next : {M : Type 0} (told : M → MediumView) (e : Entry) (h : History) (d m : ℕ) (jobs : List Job) (s : State M) → is_open (e ∷ h) m ≡ is_open h m → claimed_items (e ∷ h) m ≡ without_jobs jobs (claimed_items h m)
    → ((v : ℕ) (t : TapeRecords) → IsTrueMedium h v t → IsTrueMedium (e ∷ h) v t) → FitsResolved told h d m jobs s → FitsIn told (e ∷ h) d s
resolved_next told e h d m jobs (state.Leaving x) still claims stays is = record {
  at = at_next told e h d x (subst (λ (k : ℕ). is_open (e ∷ h) k ≡ is_open h k) is.0 still) (stays x.tape) is.2;
  claims = subst (λ (k : ℕ). claimed_items (e ∷ h) k ≡ []) is.0 (claims ∙ is.3.left);
}
resolved_next told e h d m jobs (state.Reading x items at) still claims stays is = record {
  unread = record {
    at = at_next told e h d x (subst (λ (k : ℕ). is_open (e ∷ h) k ≡ is_open h k) is.0 still) (stays x.tape) is.1.at;
    way = is.1.way;
    once = is.1.once;
    files = files_next e h (drop at items.items) is.1.files;
    safe = is.1.safe;
  };
  claims = subst (λ (k : ℕ). claimed_items (e ∷ h) k ≡ drop at items.items) is.0 (claims ∙ is.2.left);
}
resolved_next told e h d m jobs state.Free still claims stays is = absurd is
resolved_next told e h d m jobs (state.Held x) still claims stays is = absurd is
resolved_next told e h d m jobs (state.Ready x) still claims stays is = absurd is
resolved_next told e h d m jobs (state.Claimed x items blobs) still claims stays is = absurd is
resolved_next told e h d m jobs (state.Writing x b) still claims stays is = absurd is

pub here : {A : Type 0} (m : ℕ) (x y : A) → (if m == m then x else y) ≡ x
here m x y = rw (eq-eqb m m refl) refl

-- ---- after a Flushed

recorded_all : (t : TapeRecords) (items : List Item) → AreRecorded t.records items → AllByRecursion (HasItem t) items
recorded_all t [] is = tt
recorded_all t (i ∷ items) is = (is.0, recorded_all t items is.1)

pub flushed_next : {M : Type 0} (told : M → MediumView) (site : Site) (h : History) (t d m : ℕ) (b : Answer) (x : Mounted M) (items : Listed Item) → m ≡ x.mount → IsLegal site (new_entry h t (ask.Flushed m items) b ∷ h) → IsFlushing told h d x items.items
    → IsRest told (new_entry h t (ask.Flushed m items) b ∷ h) d x
flushed_next {M} told site h t d m b x items same legal is =
    let e : Entry = new_entry h t (ask.Flushed m items) b in
    let tape : tape_of_mount h m ≡ x.tape = ap (tape_of_mount h) same ∙ ap tape_by is.at.mount.mount in
    record {
      at = record { mount = mount_next e h d x.mount x.direction x.tape refl is.at.mount; medium = record { label = is.at.medium.label; truth = medium (told x.medium).records tape legal is.at.medium.truth is.safe } };
      claims = subst (λ (k : ℕ). claimed_items (e ∷ h) k ≡ []) same (here m (without_jobs (item_jobs items.items) (claimed_items h m)) (claimed_items h m) ∙ ap (λ (k : ℕ). without_jobs (item_jobs items.items) (claimed_items h k)) same ∙ is.resolves.left);
    }
  where
    medium : (o : Option TapeRecords) → tape_of_mount h m ≡ x.tape → IsLegal site (new_entry h t (ask.Flushed m items) b ∷ h) → IfSome o (IsTrueMedium h x.tape) → IfSome o (AreFlushed (length (tape_items h x.tape)) items.items) → IfSome o (IsTrueMedium (new_entry h t (ask.Flushed m items) b ∷ h) x.tape)
    medium None tape legal is safe = tt
    medium (Some r) tape legal is safe =
        subst (λ (v : ℕ). IsTrueMedium (new_entry h t (ask.Flushed m items) b ∷ h) v r) tape
        (flushed_is_true site h (new_entry h t (ask.Flushed m items) b) m items r legal refl (subst (λ (v : ℕ). IsTrueMedium h v r) (sym tape) is)
        (subst (λ (v : ℕ). length (tape_items h v) + length items.items ≤ r.safe) (sym tape) safe.long) (recorded_all r items.items safe.recorded))

-- ---- these asks are accepted

open_accepted : (closed : Bool) (a : Answer) → closed ≡ false → is_accepted a ≡ true → is_accepted (refuse refusal.Unknown closed a) ≡ true
open_accepted true a up is = absurd (cc)
open_accepted false a up is = is

pub flushed_accepted : {M : Type 0} (told : M → MediumView) (site : Site) (h : History) (t d m : ℕ) (x : Mounted M) (items : Listed Item) → m ≡ x.mount → IsFlushing told h d x items.items → is_accepted (answer_of site h t (ask.Flushed m items)) ≡ true
flushed_accepted told site h t d m x items same is =
    let known : is_known h m (item_jobs items.items) ≡ true = ap (λ (k : ℕ). is_known h k (item_jobs items.items)) same ∙ is.resolves.known in
    let last : is_last_batch (last_batch h m) items.items ≡ true = last_self (last_batch h m) items.items (ap (last_batch h) same ∙ is.last) in
    open_accepted _ _ (not_true _ (both_true _ _ known last)) refl

pub recalled_accepted : {M : Type 0} (told : M → MediumView) (site : Site) (h : History) (t d m : ℕ) (job : Job) (s : State M) → FitsResolved told h d m (job ∷ []) s → is_accepted (answer_of site h t (ask.Recalled m job)) ≡ true
recalled_accepted told site h t d m job s is = open_accepted _ _ (not_true _ (resolved_known told h d m (job ∷ []) s is)) refl

pub failed_accepted : {M : Type 0} (told : M → MediumView) (site : Site) (h : History) (t d m : ℕ) (f : Fault) (charged returned : Listed Job) (s : State M) → FitsResolved told h d m (charged.items ++ returned.items) s → is_accepted (answer_of site h t (ask.Failed m f charged returned)) ≡ true
failed_accepted told site h t d m f charged returned s is = open_accepted _ _ (not_true _ (resolved_known told h d m (charged.items ++ returned.items) s is)) refl
