-- What a session that fits asks.
use Rattle.std.proofs.Common.{◌≡◌, ℕ, List, [], ◌∷◌, ◌++◌, Bool, true, false, not, refl, sym, subst, ◌∙◌, ap}
use Rattle.std.specs.Prelude.{Option, Some, None, IfSome, ◌&&◌, if◌then◌else◌, length, ◌<◌}
use Rattle.std.proofs.lemmas.Bool.{eq-eqb}
use Rattle.blob.specs.Records.{MediumView}
use Rattle.cta_site.specs.declared.site.Site.{Site}
use Rattle.cta_model.specs.declared.answers.Answer.{Answer}
use Rattle.cta_model.specs.declared.answers.Answer.TheVariants as answer
use Rattle.cta_model.specs.declared.answers.Refusal.TheVariants as refusal
use Rattle.cta_model.specs.declared.asks.Ask.{Ask}
use Rattle.cta_model.specs.declared.asks.Ask.TheVariants as ask
use Rattle.cta_model.specs.declared.asks.Direction.{Direction}
use Rattle.cta_model.specs.declared.asks.Direction.TheVariants as direction
use Rattle.cta_model.specs.declared.asks.Item.{Item}
use Rattle.cta_model.specs.declared.asks.Job.{Job}
use Rattle.cta_model.specs.declared.hands.Hand.{Hand}
use Rattle.cta_model.specs.declared.states.Candidate.{Candidate}
use Rattle.cta_model.specs.declared.states.Mount.{Mount}
use Rattle.cta_model.specs.Answers.{answer_of, batch_answer, claim_by, is_known, is_last_batch, is_too_heavy, light_answer, mounted, refuse, same_item, same_items}
use Rattle.cta_model.specs.Batches.{batch_of}
use Rattle.cta_model.specs.Choice.{mount_choice}
use Rattle.cta_model.specs.Hands.{HandIn}
use Rattle.cta_model.specs.History.{History, is_empty, moment_of}
use Rattle.cta_model.specs.Legal.{IsFit, IsMount, IsMountOf}
use Rattle.cta_model.specs.Media.{IsMediumOf}
use Rattle.cta_model.specs.Mounts.{is_busy, is_down, is_open, item_jobs, last_batch, mount_of, tape_by}
use Rattle.drive_session.specs.declared.states.Asked.{Asked}
use Rattle.drive_session.specs.declared.states.State.{State}
use Rattle.drive_session.specs.declared.states.State.TheVariants as state
use Rattle.drive_session.specs.Fits.{FitsAsk, FitsResolved, IsMountAt}
use Rattle.session_laws.specs.Laws.{AsksAreFit, AsksAreKnown}
use Rattle.cta_laws.proofs.Paths.{bytes_self}
use Rattle.drive_session.proofs.Resolving.{same_self}

-- ---- the conditions of an ask, and what goes with it

is_mount : (h : History) (d m k : ℕ) (way : Direction) (v : ℕ) → m ≡ k → IsMountAt h d k way v → IsMount (mount_of h m)
is_mount h d m k way v same is = subst (λ o. IsMount o) (sym (ap (mount_of h) same ∙ is.mount)) tt

goes_way : (h : History) (d m k : ℕ) (way want : Direction) (v : ℕ) → m ≡ k → IsMountAt h d k way v → way ≡ want → IsMountOf want (mount_of h m)
goes_way h d m k way want v same is there = subst (λ o. IsMountOf want o) (sym (ap (mount_of h) same ∙ is.mount)) there

pub fit_of : {M : Type 0} (told : M → MediumView) (site : Site) (h : History) (d : ℕ) (s : State M) (w : Asked) (a : Ask) (q : Hand M) → d < length site.drives.items → FitsAsk told h d s w a q → IsFit site h a × HandIn told h a q
fit_of told site h d s w (ask.Next k) q known is = (subst (λ (n : ℕ). n < length site.drives.items) (sym is.drive) known, subst (λ q. HandIn told h (ask.Next k) q) (sym is.hand) tt)
fit_of told site h d s w (ask.Claim m) q known is = (is_mount h d m is.mounted.mount is.mounted.direction is.mounted.tape is.mount is.rest.at.mount, subst (λ q. HandIn told h (ask.Claim m) q) (sym is.hand) tt)
fit_of told site h d s w (ask.Flushed m items) q known is =
    (goes_way h d m is.mounted.mount is.mounted.direction direction.Archive is.mounted.tape is.mount is.batch.at.mount is.batch.way, subst (λ q. HandIn told h (ask.Flushed m items) q) (sym is.hand) tt)
fit_of told site h d s w (ask.Recalled m job) q known is = (is.way, subst (λ q. HandIn told h (ask.Recalled m job) q) (sym is.hand) is.file)
fit_of told site h d s w (ask.Failed m f charged returned) q known is = ((is.cause, is.some), subst (λ q. HandIn told h (ask.Failed m f charged returned) q) (sym is.hand) tt)
fit_of told site h d s w (ask.End m f) q known is = (
  (is_mount h d m m is.way is.tape refl is.mount, is.cause),
  subst (λ q. HandIn told h (ask.End m f) q) (sym is.hand) (subst (λ (v : ℕ). IsMediumOf h v (told is.medium)) (sym (ap tape_by is.mount.mount)) is.truth),
)
fit_of told site h d s w _ q known is = absurd is

pub asks_are_fit : {M : Type 0} (told : M → MediumView) → AsksAreFit told
asks_are_fit told site h d s w a q is = fit_of told site h d s w a q is.known is.asked

-- ---- no ask is unknown

-- what an open Failed or Recalled names is claimed
pub resolved_known : {M : Type 0} (told : M → MediumView) (h : History) (d m : ℕ) (jobs : List Job) (s : State M) → FitsResolved told h d m jobs s → is_known h m jobs ≡ true
resolved_known told h d m jobs (state.Leaving x) is = is.3.known
resolved_known told h d m jobs (state.Reading x items at) is = is.2.known
resolved_known told h d m jobs state.Free is = absurd is
resolved_known told h d m jobs (state.Held x) is = absurd is
resolved_known told h d m jobs (state.Ready x) is = absurd is
resolved_known told h d m jobs (state.Claimed x items blobs) is = absurd is
resolved_known told h d m jobs (state.Writing x b) is = absurd is

-- whether an answer says that an ask is unknown
abbrev pub is_unknown : Answer → Bool
is_unknown (answer.Refused refusal.Unknown) = true
is_unknown _ = false

next_known : (heavy none down busy : Bool) (n : ℕ) (o : Option Candidate) → is_unknown (refuse refusal.HistoryFull heavy (refuse refusal.NoDrive none (if down then answer.DriveDown else if busy then answer.DriveBusy else mounted n o))) ≡ false
next_known true none down busy n o = refl
next_known false true down busy n o = refl
next_known false false true busy n o = refl
next_known false false false true n o = refl
next_known false false false false n None = refl
next_known false false false false n (Some c) = refl

batch_known : (heavy : Bool) (site : Site) (h : History) (t : ℕ) (way : Direction) (items : List Item) → is_unknown (refuse refusal.HistoryFull heavy (batch_answer site h t way items)) ≡ false
batch_known true site h t way items = refl
batch_known false site h t way [] = refl
batch_known false site h t direction.Archive (i ∷ items) = refl
batch_known false site h t direction.Retrieve (i ∷ items) = refl

claim_known : (heavy closed : Bool) (site : Site) (h : History) (t : ℕ) (o : Option Mount) (x : Mount) → closed ≡ false → o ≡ Some x → is_unknown (refuse refusal.HistoryFull heavy (refuse refusal.Unknown closed (claim_by site h t o))) ≡ false
claim_known heavy closed site h t o x up mount = rw (up, mount) (batch_known heavy site h t x.direction (batch_of site h t x))

other_known : (heavy closed : Bool) (a : Answer) → closed ≡ false → is_unknown a ≡ false → is_unknown (refuse refusal.HistoryFull heavy (refuse refusal.Unknown closed a)) ≡ false
other_known true closed a up is = refl
other_known false true a up is = absurd (cc)
other_known false false a up is = is

pub not_true : (b : Bool) → b ≡ true → not b ≡ false
not_true b e = ap not e

pub both_true : (a b : Bool) → a ≡ true → b ≡ true → (a && b) ≡ true
both_true a b e f = rw (e, f) refl

-- items are the same as themselves
same_item_self : (i : Item) → same_item i i ≡ true
same_item_self i = rw (same_self i.job, eq-eqb i.fseq i.fseq refl, eq-eqb i.sum.len i.sum.len refl, bytes_self i.sum.digest) refl

pub same_items_self : (items : List Item) → same_items items items ≡ true
same_items_self [] = refl
same_items_self (i ∷ items) = both_true _ _ (same_item_self i) (same_items_self items)

pub last_self : (o : Option (List Item)) (items : List Item) → o ≡ Some items → is_last_batch o items ≡ true
last_self o items is = rw is (same_items_self items)

-- nothing is claimed
empty_nil : (items : List Item) → items ≡ [] → is_empty items ≡ true
empty_nil items e = rw e refl

pub known_of : {M : Type 0} (told : M → MediumView) (site : Site) (h : History) (t d : ℕ) (s : State M) (w : Asked) (a : Ask) (q : Hand M) → FitsAsk told h d s w a q → is_unknown (answer_of site h t a) ≡ false
known_of told site h t d s w (ask.Next k) q is = next_known (is_too_heavy site h (ask.Next k) (light_answer site h (moment_of h t) (ask.Next k))) _ (is_down h k) (is_busy h k) _ (mount_choice site h (moment_of h t) k)
known_of told site h t d s w (ask.Claim m) q is =
    claim_known (is_too_heavy site h (ask.Claim m) (light_answer site h (moment_of h t) (ask.Claim m))) (not (is_open h m)) site h (moment_of h t) (mount_of h m) _ (not_true (is_open h m) (ap (is_open h) is.mount ∙ is.rest.at.mount.still)) (ap (mount_of h) is.mount ∙ is.rest.at.mount.mount)
known_of told site h t d s w (ask.Flushed m items) q is =
    let x = is.mounted in
    let known : is_known h m (item_jobs items.items) ≡ true = ap (λ (k : ℕ). is_known h k (item_jobs items.items)) is.mount ∙ is.batch.resolves.known in
    let last : is_last_batch (last_batch h m) items.items ≡ true = last_self (last_batch h m) items.items (ap (last_batch h) is.mount ∙ is.batch.last) in
    other_known false _ _ (not_true _ (both_true _ _ known last)) refl
known_of told site h t d s w (ask.Recalled m job) q is = other_known false _ _ (not_true _ (resolved_known told h d m (job ∷ []) s is.resolved)) refl
known_of told site h t d s w (ask.Failed m f charged returned) q is = other_known false _ _ (not_true _ (resolved_known told h d m (charged.items ++ returned.items) s is.resolved)) refl
known_of told site h t d s w (ask.End m f) q is = other_known false _ _ (not_true _ (both_true _ _ is.mount.still (empty_nil _ is.claims))) refl
known_of told site h t d s w _ q is = absurd is

pub asks_are_known : {M : Type 0} (told : M → MediumView) → AsksAreKnown told
asks_are_known told site h t d s w a q is = λ e. (let known = known_of told site h t d s w a q is.asked in let bad : true ≡ false = ap is_unknown (sym e) ∙ known in absurd (cc))
