-- What a session has asked, once it is answered.
use Rattle.std.proofs.Common.{◌≡◌, ℕ, ◌≤◌, Bool, true, false, inl, inr, List, [], ◌∷◌, ◌++◌, refl, sym, ap, ◌∙◌, subst}
use Rattle.std.specs.Prelude.{Option, Some, None}
use Rattle.std.proofs.lemmas.Option.{none-some, same_Some}
use Rattle.blob.specs.Records.{MediumView}
use Rattle.cta_site.specs.Listed.{Listed}
use Rattle.cta_model.specs.declared.answers.Answer.{Answer}
use Rattle.cta_model.specs.declared.answers.Answer.TheVariants as answer
use Rattle.cta_model.specs.declared.asks.Ask.{Ask}
use Rattle.cta_model.specs.declared.asks.Ask.TheVariants as ask
use Rattle.cta_model.specs.declared.asks.Direction.{Direction}
use Rattle.cta_model.specs.declared.asks.Direction.TheVariants as direction
use Rattle.cta_model.specs.declared.asks.Item.{Item}
use Rattle.cta_model.specs.declared.asks.Job.{Job}
use Rattle.cta_model.specs.declared.hands.Hand.{Hand}
use Rattle.cta_model.specs.declared.hands.Hand.TheVariants as hand
use Rattle.cta_model.specs.declared.states.Mount.{Mount}
use Rattle.cta_model.specs.Answers.{answer_of, is_accepted}
use Rattle.cta_model.specs.Bare.{bare_answer, bare_ask}
use Rattle.cta_model.specs.Hands.{BatchHand, HandBack, TakesOut, medium_in}
use Rattle.cta_model.specs.History.{History}
use Rattle.cta_model.specs.Kept.{Kept, history_after, kept_after}
use Rattle.cta_model.specs.Legal.{IsFit, IsLegal, greatest_moment}
use Rattle.cta_model.specs.Mounts.{mount_of}
use Rattle.drive_session.specs.declared.reports.StepLine.{StepLine}
use Rattle.drive_session.specs.declared.session.Memo.{Memo}
use Rattle.drive_session.specs.declared.states.Asked.{Asked}
use Rattle.drive_session.specs.declared.states.Asked.TheVariants as asked
use Rattle.drive_session.specs.declared.states.Mounted.{Mounted}
use Rattle.drive_session.specs.declared.states.State.{State}
use Rattle.drive_session.specs.declared.states.State.TheVariants as state
use Rattle.drive_session.specs.Answers.{batch_by, claimed_state, is_asking, is_memory, line_after, next_state, state_after}
use Rattle.drive_session.specs.Fits.{FitsAsk, FitsOpen, FitsResolved, FitsState, IsMountAt}
use Rattle.drive_session.specs.Steps.{is_loaded_in, medium_held, medium_left}
use Rattle.drive_session.specs.Table.{AnswersLeadByPhase, GoesWith, HeldMount, IsBatchHand, Phase, Free, Held, Leaving, Reading, Ready, Writing, claim_phase, line_by, next_phase, phase_after, phase_of}
use Rattle.session_laws.proofs.Bares.{open_bare, same_loaded, state_bare}
use Rattle.session_laws.specs.Laws.{AnsweredSessionFits, AsksAreFit, AsksAreKnown}
use Rattle.replay.specs.Desk.{HasNoMount, IsAbout, IsAskedOf, IsFree, IsIdleFor}
use Rattle.replay.specs.Steps.{medium_behind}
use Rattle.replay.proofs.Freed.{freed}

-- ---- the room in lists

next_phase-bare : (a : Answer) → next_phase (bare_answer a) ≡ next_phase a
next_phase-bare (answer.Stored evicted) = refl
next_phase-bare answer.Done = refl
next_phase-bare (answer.Staged id) = refl
next_phase-bare (answer.Mounted n way v) = refl
next_phase-bare answer.Idle = refl
next_phase-bare answer.DriveDown = refl
next_phase-bare answer.DriveBusy = refl
next_phase-bare (answer.Batch items evicted) = refl
next_phase-bare answer.Nothing = refl
next_phase-bare (answer.Told fates) = refl
next_phase-bare (answer.Arrived fate) = refl
next_phase-bare (answer.Repacking id items) = refl
next_phase-bare (answer.Retried jobs) = refl
next_phase-bare (answer.Bytes sum) = refl
next_phase-bare (answer.Stage info) = refl
next_phase-bare (answer.Places infos) = refl
next_phase-bare (answer.RepackSeen info) = refl
next_phase-bare (answer.FailedSeen copies) = refl
next_phase-bare (answer.TapeSeen info) = refl
next_phase-bare (answer.QueuesSeen infos) = refl
next_phase-bare (answer.Refused refused) = refl

claim_phase-bare : (x : HeldMount) (a : Answer) → claim_phase x (bare_answer a) ≡ claim_phase x a
claim_phase-bare x (answer.Stored evicted) = refl
claim_phase-bare x answer.Done = refl
claim_phase-bare x (answer.Staged id) = refl
claim_phase-bare x (answer.Mounted n way v) = refl
claim_phase-bare x answer.Idle = refl
claim_phase-bare x answer.DriveDown = refl
claim_phase-bare x answer.DriveBusy = refl
claim_phase-bare x (answer.Batch items evicted) = refl
claim_phase-bare x answer.Nothing = refl
claim_phase-bare x (answer.Told fates) = refl
claim_phase-bare x (answer.Arrived fate) = refl
claim_phase-bare x (answer.Repacking id items) = refl
claim_phase-bare x (answer.Retried jobs) = refl
claim_phase-bare x (answer.Bytes sum) = refl
claim_phase-bare x (answer.Stage info) = refl
claim_phase-bare x (answer.Places infos) = refl
claim_phase-bare x (answer.RepackSeen info) = refl
claim_phase-bare x (answer.FailedSeen copies) = refl
claim_phase-bare x (answer.TapeSeen info) = refl
claim_phase-bare x (answer.QueuesSeen infos) = refl
claim_phase-bare x (answer.Refused refused) = refl

phase_after-bare : (w : Asked) (p : Phase) (a : Answer) → phase_after w p (bare_answer a) ≡ phase_after w p a
phase_after-bare asked.Next p a = next_phase-bare a
phase_after-bare asked.Claim Free a = refl
phase_after-bare asked.Claim (Held x) a = refl
phase_after-bare asked.Claim (Writing x items at) a = refl
phase_after-bare asked.Claim (Reading x items at) a = refl
phase_after-bare asked.Claim (Leaving x) a = refl
phase_after-bare asked.Claim (Ready x) a = claim_phase-bare x a
phase_after-bare asked.Flushed p a = refl
phase_after-bare (asked.Recalled n) p a = refl
phase_after-bare (asked.Known o) p a = refl
phase_after-bare (asked.Nothing l) p a = refl

line_by-bare : (w : Asked) (p : Phase) (a : Answer) → line_by w p (bare_answer a) ≡ line_by w p a
line_by-bare asked.Next p (answer.Stored evicted) = refl
line_by-bare asked.Next p answer.Done = refl
line_by-bare asked.Next p (answer.Staged id) = refl
line_by-bare asked.Next p (answer.Mounted n way v) = refl
line_by-bare asked.Next p answer.Idle = refl
line_by-bare asked.Next p answer.DriveDown = refl
line_by-bare asked.Next p answer.DriveBusy = refl
line_by-bare asked.Next p (answer.Batch items evicted) = refl
line_by-bare asked.Next p answer.Nothing = refl
line_by-bare asked.Next p (answer.Told fates) = refl
line_by-bare asked.Next p (answer.Arrived fate) = refl
line_by-bare asked.Next p (answer.Repacking id items) = refl
line_by-bare asked.Next p (answer.Retried jobs) = refl
line_by-bare asked.Next p (answer.Bytes sum) = refl
line_by-bare asked.Next p (answer.Stage info) = refl
line_by-bare asked.Next p (answer.Places infos) = refl
line_by-bare asked.Next p (answer.RepackSeen info) = refl
line_by-bare asked.Next p (answer.FailedSeen copies) = refl
line_by-bare asked.Next p (answer.TapeSeen info) = refl
line_by-bare asked.Next p (answer.QueuesSeen infos) = refl
line_by-bare asked.Next p (answer.Refused refused) = refl
line_by-bare asked.Claim Free a = refl
line_by-bare asked.Claim (Held x) a = refl
line_by-bare asked.Claim (Writing x items at) a = refl
line_by-bare asked.Claim (Reading x items at) a = refl
line_by-bare asked.Claim (Leaving x) a = refl
line_by-bare asked.Claim (Ready x) (answer.Stored evicted) = refl
line_by-bare asked.Claim (Ready x) answer.Done = refl
line_by-bare asked.Claim (Ready x) (answer.Staged id) = refl
line_by-bare asked.Claim (Ready x) (answer.Mounted n way v) = refl
line_by-bare asked.Claim (Ready x) answer.Idle = refl
line_by-bare asked.Claim (Ready x) answer.DriveDown = refl
line_by-bare asked.Claim (Ready x) answer.DriveBusy = refl
line_by-bare asked.Claim (Ready x) (answer.Batch items evicted) = refl
line_by-bare asked.Claim (Ready x) answer.Nothing = refl
line_by-bare asked.Claim (Ready x) (answer.Told fates) = refl
line_by-bare asked.Claim (Ready x) (answer.Arrived fate) = refl
line_by-bare asked.Claim (Ready x) (answer.Repacking id items) = refl
line_by-bare asked.Claim (Ready x) (answer.Retried jobs) = refl
line_by-bare asked.Claim (Ready x) (answer.Bytes sum) = refl
line_by-bare asked.Claim (Ready x) (answer.Stage info) = refl
line_by-bare asked.Claim (Ready x) (answer.Places infos) = refl
line_by-bare asked.Claim (Ready x) (answer.RepackSeen info) = refl
line_by-bare asked.Claim (Ready x) (answer.FailedSeen copies) = refl
line_by-bare asked.Claim (Ready x) (answer.TapeSeen info) = refl
line_by-bare asked.Claim (Ready x) (answer.QueuesSeen infos) = refl
line_by-bare asked.Claim (Ready x) (answer.Refused refused) = refl
line_by-bare asked.Flushed p (answer.Stored evicted) = refl
line_by-bare asked.Flushed p answer.Done = refl
line_by-bare asked.Flushed p (answer.Staged id) = refl
line_by-bare asked.Flushed p (answer.Mounted n way v) = refl
line_by-bare asked.Flushed p answer.Idle = refl
line_by-bare asked.Flushed p answer.DriveDown = refl
line_by-bare asked.Flushed p answer.DriveBusy = refl
line_by-bare asked.Flushed p (answer.Batch items evicted) = refl
line_by-bare asked.Flushed p answer.Nothing = refl
line_by-bare asked.Flushed p (answer.Told fates) = refl
line_by-bare asked.Flushed p (answer.Arrived fate) = refl
line_by-bare asked.Flushed p (answer.Repacking id items) = refl
line_by-bare asked.Flushed p (answer.Retried jobs) = refl
line_by-bare asked.Flushed p (answer.Bytes sum) = refl
line_by-bare asked.Flushed p (answer.Stage info) = refl
line_by-bare asked.Flushed p (answer.Places infos) = refl
line_by-bare asked.Flushed p (answer.RepackSeen info) = refl
line_by-bare asked.Flushed p (answer.FailedSeen copies) = refl
line_by-bare asked.Flushed p (answer.TapeSeen info) = refl
line_by-bare asked.Flushed p (answer.QueuesSeen infos) = refl
line_by-bare asked.Flushed p (answer.Refused refused) = refl
line_by-bare (asked.Recalled s) p (answer.Stored evicted) = refl
line_by-bare (asked.Recalled s) p answer.Done = refl
line_by-bare (asked.Recalled s) p (answer.Staged id) = refl
line_by-bare (asked.Recalled s) p (answer.Mounted n way v) = refl
line_by-bare (asked.Recalled s) p answer.Idle = refl
line_by-bare (asked.Recalled s) p answer.DriveDown = refl
line_by-bare (asked.Recalled s) p answer.DriveBusy = refl
line_by-bare (asked.Recalled s) p (answer.Batch items evicted) = refl
line_by-bare (asked.Recalled s) p answer.Nothing = refl
line_by-bare (asked.Recalled s) p (answer.Told fates) = refl
line_by-bare (asked.Recalled s) p (answer.Arrived fate) = refl
line_by-bare (asked.Recalled s) p (answer.Repacking id items) = refl
line_by-bare (asked.Recalled s) p (answer.Retried jobs) = refl
line_by-bare (asked.Recalled s) p (answer.Bytes sum) = refl
line_by-bare (asked.Recalled s) p (answer.Stage info) = refl
line_by-bare (asked.Recalled s) p (answer.Places infos) = refl
line_by-bare (asked.Recalled s) p (answer.RepackSeen info) = refl
line_by-bare (asked.Recalled s) p (answer.FailedSeen copies) = refl
line_by-bare (asked.Recalled s) p (answer.TapeSeen info) = refl
line_by-bare (asked.Recalled s) p (answer.QueuesSeen infos) = refl
line_by-bare (asked.Recalled s) p (answer.Refused refused) = refl
line_by-bare (asked.Known o) p a = refl
line_by-bare (asked.Nothing l) p a = refl

-- ---- what goes with an answer

goes_next : {M : Type 0} (told : M → MediumView) (h later : History) (n : ℕ) (s : State M) (a : Answer) (q out : Hand M) → HandBack told (is_accepted (bare_answer a)) h later (ask.Next n) (bare_answer a) q out → GoesWith asked.Next s a out
goes_next told h later n s (answer.Stored evicted) q out b = tt
goes_next told h later n s answer.Done q out b = tt
goes_next told h later n s (answer.Staged id) q out b = tt
goes_next told h later n s (answer.Mounted m way v) q hand.Nothing b = b
goes_next told h later n s (answer.Mounted m way v) q (hand.Blob blob) b = b
goes_next told h later n s (answer.Mounted m way v) q (hand.Blobs blobs) b = b
goes_next told h later n s (answer.Mounted m way v) q (hand.Medium y) b = tt
goes_next told h later n s answer.Idle q out b = tt
goes_next told h later n s answer.DriveDown q out b = tt
goes_next told h later n s answer.DriveBusy q out b = tt
goes_next told h later n s (answer.Batch items evicted) q out b = tt
goes_next told h later n s answer.Nothing q out b = tt
goes_next told h later n s (answer.Told fates) q out b = tt
goes_next told h later n s (answer.Arrived fate) q out b = tt
goes_next told h later n s (answer.Repacking id items) q out b = tt
goes_next told h later n s (answer.Retried jobs) q out b = tt
goes_next told h later n s (answer.Bytes sum) q out b = tt
goes_next told h later n s (answer.Stage info) q out b = tt
goes_next told h later n s (answer.Places infos) q out b = tt
goes_next told h later n s (answer.RepackSeen info) q out b = tt
goes_next told h later n s (answer.FailedSeen copies) q out b = tt
goes_next told h later n s (answer.TapeSeen info) q out b = tt
goes_next told h later n s (answer.QueuesSeen infos) q out b = tt
goes_next told h later n s (answer.Refused refused) q out b = tt

ways_differ : direction.Archive ≡ direction.Retrieve → ⊥
ways_differ e = cc

batch_goes : {M : Type 0} (o : Option Mount) (x : Mount) (way : Direction) (items : List Item) (out : Hand M) → o ≡ Some x → x.direction ≡ way → BatchHand o items out → IsBatchHand way out
batch_goes None x way items out e f b = absurd (none-some x e)
batch_goes (Some y) x direction.Archive items hand.Nothing e f b = absurd (ways_differ (sym (ap (λ (z : Mount). z.direction) (same_Some y x e) ∙ f) ∙ b))
batch_goes (Some y) x direction.Retrieve items hand.Nothing e f b = tt
batch_goes (Some y) x direction.Archive items (hand.Blobs blobs) e f b = tt
batch_goes (Some y) x direction.Retrieve items (hand.Blobs blobs) e f b = absurd (ways_differ (sym b.0 ∙ ap (λ (z : Mount). z.direction) (same_Some y x e) ∙ f))
batch_goes (Some y) x way items (hand.Blob blob) e f b = absurd b
batch_goes (Some y) x way items (hand.Medium z) e f b = absurd b

goes_claim : {M : Type 0} (told : M → MediumView) (h later : History) (m : ℕ) (x : Mounted M) (d : ℕ) (a : Answer) (q out : Hand M) → IsMountAt h d m x.direction x.tape
    → HandBack told (is_accepted (bare_answer a)) h later (ask.Claim m) (bare_answer a) q out → GoesWith asked.Claim (state.Ready x) a out
goes_claim told h later m x d (answer.Stored evicted) q out at b = tt
goes_claim told h later m x d answer.Done q out at b = tt
goes_claim told h later m x d (answer.Staged id) q out at b = tt
goes_claim told h later m x d (answer.Mounted n way v) q out at b = tt
goes_claim told h later m x d answer.Idle q out at b = tt
goes_claim told h later m x d answer.DriveDown q out at b = tt
goes_claim told h later m x d answer.DriveBusy q out at b = tt
goes_claim told h later m x d (answer.Batch items evicted) q out at b = batch_goes (mount_of h m) (record { drive = d; direction = x.direction; tape = x.tape }) x.direction items.items out at.mount refl b
goes_claim told h later m x d answer.Nothing q out at b = tt
goes_claim told h later m x d (answer.Told fates) q out at b = tt
goes_claim told h later m x d (answer.Arrived fate) q out at b = tt
goes_claim told h later m x d (answer.Repacking id items) q out at b = tt
goes_claim told h later m x d (answer.Retried jobs) q out at b = tt
goes_claim told h later m x d (answer.Bytes sum) q out at b = tt
goes_claim told h later m x d (answer.Stage info) q out at b = tt
goes_claim told h later m x d (answer.Places infos) q out at b = tt
goes_claim told h later m x d (answer.RepackSeen info) q out at b = tt
goes_claim told h later m x d (answer.FailedSeen copies) q out at b = tt
goes_claim told h later m x d (answer.TapeSeen info) q out at b = tt
goes_claim told h later m x d (answer.QueuesSeen infos) q out at b = tt
goes_claim told h later m x d (answer.Refused refused) q out at b = tt

goes_with : {M : Type 0} (told : M → MediumView) (h later : History) (d : ℕ) (s : State M) (w : Asked) (k : Ask) (q : Hand M) (a : Answer) (out : Hand M) → FitsAsk told h d s w k q
    → HandBack told (is_accepted (bare_answer a)) h later k (bare_answer a) q out → GoesWith w s a out
goes_with told h later d s w (ask.Put who path sum) q a out f b = absurd f
goes_with told h later d s w (ask.Delete who path) q a out f b = absurd f
goes_with told h later d s w (ask.Stage who files) q a out f b = absurd f
goes_with told h later d s w (ask.Cancel who id paths) q a out f b = absurd f
goes_with told h later d s w (ask.DropStage who id) q a out f b = absurd f
goes_with told h later d s w (ask.Release who id paths) q a out f b = absurd f
goes_with told h later d s w (ask.Next n) q a out f b = rw f.asked (goes_next told h later n s a q out b)
goes_with told h later d s w (ask.Claim m) q a out f b = rw (f.asked, f.state) (goes_claim told h later m f.mounted d a q out (subst (λ n. IsMountAt h d n f.mounted.direction f.mounted.tape) (sym f.mount) f.rest.at.mount) b)
goes_with told h later d s w (ask.Flushed m items) q a out f b = rw f.asked tt
goes_with told h later d s w (ask.Recalled m job) q a out f b = rw f.asked tt
goes_with told h later d s w (ask.Failed m fault charged returned) q a out f b = rw f.asked tt
goes_with told h later d s w (ask.End m fault) q a out f b = rw f.asked tt
goes_with told h later d s w (ask.DriveUp who n) q a out f b = absurd f
goes_with told h later d s w (ask.DriveDown who n) q a out f b = absurd f
goes_with told h later d s w (ask.TapeState who v st) q a out f b = absurd f
goes_with told h later d s w (ask.Reclaim who v) q a out f b = absurd f
goes_with told h later d s w (ask.Repack who v) q a out f b = absurd f
goes_with told h later d s w (ask.Retry who paths) q a out f b = absurd f

-- ---- which mount is asked about

resolved_about : {M : Type 0} (told : M → MediumView) (h : History) (d m : ℕ) (jobs : List Job) (s : State M) → FitsResolved told h d m jobs s → (way : Direction) × ((v : ℕ) × IsMountAt h d m way v)
resolved_about told h d m jobs state.Free f = absurd f
resolved_about told h d m jobs (state.Held x) f = absurd f
resolved_about told h d m jobs (state.Ready x) f = absurd f
resolved_about told h d m jobs (state.Claimed x items blobs) f = absurd f
resolved_about told h d m jobs (state.Writing x b) f = absurd f
resolved_about told h d m jobs (state.Reading x items at) f = (x.direction, (x.tape, subst (λ n. IsMountAt h d n x.direction x.tape) (sym f.0) f.1.at.mount))
resolved_about told h d m jobs (state.Leaving x) f = (x.direction, (x.tape, subst (λ n. IsMountAt h d n x.direction x.tape) (sym f.0) f.2.mount))

ask_about : {M : Type 0} (told : M → MediumView) (h : History) (d : ℕ) (s : State M) (w : Asked) (k : Ask) (q : Hand M) → FitsAsk told h d s w k q → IsAbout h d k
ask_about told h d s w (ask.Put who path sum) q f = absurd f
ask_about told h d s w (ask.Delete who path) q f = absurd f
ask_about told h d s w (ask.Stage who files) q f = absurd f
ask_about told h d s w (ask.Cancel who id paths) q f = absurd f
ask_about told h d s w (ask.DropStage who id) q f = absurd f
ask_about told h d s w (ask.Release who id paths) q f = absurd f
ask_about told h d s w (ask.Next n) q f = (f.drive, inl refl)
ask_about told h d s w (ask.Claim m) q f = (tt, inr (f.mounted.direction, (f.mounted.tape, subst (λ n. IsMountAt h d n f.mounted.direction f.mounted.tape) (sym f.mount) f.rest.at.mount)))
ask_about told h d s w (ask.Flushed m items) q f = (tt, inr (f.mounted.direction, (f.mounted.tape, subst (λ n. IsMountAt h d n f.mounted.direction f.mounted.tape) (sym f.mount) f.batch.at.mount)))
ask_about told h d s w (ask.Recalled m job) q f = (tt, inr (resolved_about told h d m (job ∷ []) s f.resolved))
ask_about told h d s w (ask.Failed m fault charged returned) q f = (tt, inr (resolved_about told h d m (charged.items ++ returned.items) s f.resolved))
ask_about told h d s w (ask.End m fault) q f = (tt, inr (f.way, (f.tape, f.mount)))
ask_about told h d s w (ask.DriveUp who n) q f = absurd f
ask_about told h d s w (ask.DriveDown who n) q f = absurd f
ask_about told h d s w (ask.TapeState who v st) q f = absurd f
ask_about told h d s w (ask.Reclaim who v) q f = absurd f
ask_about told h d s w (ask.Repack who v) q f = absurd f
ask_about told h d s w (ask.Retry who paths) q f = absurd f

-- ---- an ask that was answered

history_same : (kept : Kept) (t : ℕ) (k : Ask) (a : Answer) (brought : Option MediumView) → a ≡ answer_of kept.site kept.history t k → (kept_after kept t k a brought).history ≡ history_after kept.site kept.history t k
history_same kept t k a brought e = rw e (by_cases (is_accepted (answer_of kept.site kept.history t k)) refl)
  where
    by_cases : (b : Bool) → b ≡ is_accepted (answer_of kept.site kept.history t k) → (kept_after kept t k (answer_of kept.site kept.history t k) brought).history ≡ history_after kept.site kept.history t k
    by_cases true e = rw (← e) refl
    by_cases false e = rw (← e) refl

-- what a session brings with its ask is the medium that its device has left: with an End its own, and with a Next none
brought_left : {M : Type 0} (told : M → MediumView) (h : History) (d t : ℕ) (s : State M) (w : Asked) (k : Ask) (q : Hand M) (kept : Kept) (a : Answer) → FitsAsk told h d s w (bare_ask k) q
    → kept_after kept t (bare_ask k) a (medium_in told q) ≡ kept_after kept t (bare_ask k) a (medium_left told s (Some (k, q)))
brought_left told h d t s w (ask.Next n) q kept a f =
    ap (λ z. kept_after kept t (ask.Next n) a (medium_in told z)) f.hand ∙ sym (ap (λ z. kept_after kept t (ask.Next n) a (medium_left told s (Some (ask.Next n, z)))) f.hand ∙ ap (λ z. kept_after kept t (ask.Next n) a (medium_held told z)) f.state)
brought_left told h d t s w (ask.End m fault) q kept a f =
    ap (λ z. kept_after kept t (ask.End m fault) a (medium_in told z)) f.hand ∙ sym (ap (λ z. kept_after kept t (ask.End m fault) a (medium_left told s (Some (ask.End m fault, z)))) f.hand)
brought_left told h d t s w _ q kept a f = refl

-- the medium behind the answer to a Next: the one that came out, from the place of its tape
next_medium : {M : Type 0} (told : M → MediumView) (h later : History) (shelf : List (Option MediumView)) (n : ℕ) (a : Answer) (q out : Hand M) → HandBack told (is_accepted (bare_answer a)) h later (ask.Next n) (bare_answer a) q out
    → TakesOut told shelf (ask.Next n) (bare_answer a) out → medium_held told (next_state a out) ≡ medium_behind shelf None (Some (ask.Next n)) (Some (bare_answer a))
next_medium told h later shelf n (answer.Mounted m way v) q (hand.Medium y) back takes = sym takes
next_medium told h later shelf n (answer.Mounted m way v) q hand.Nothing back takes = absurd back
next_medium told h later shelf n (answer.Mounted m way v) q (hand.Blob b) back takes = absurd back
next_medium told h later shelf n (answer.Mounted m way v) q (hand.Blobs b) back takes = absurd back
next_medium told h later shelf n _ q out back takes = refl

-- a mount keeps its medium behind the answer to a Claim
batch_medium : {M : Type 0} (told : M → MediumView) (way : Direction) (is : List Item) (x : Mounted M) (items : Listed Item) (out : Hand M) → medium_held told (batch_by way is x items out) ≡ Some (told x.medium)
batch_medium told way [] x items out = refl
batch_medium told direction.Archive (i ∷ is) x items hand.Nothing = refl
batch_medium told direction.Archive (i ∷ is) x items (hand.Blob b) = refl
batch_medium told direction.Archive (i ∷ is) x items (hand.Blobs b) = refl
batch_medium told direction.Archive (i ∷ is) x items (hand.Medium y) = refl
batch_medium told direction.Retrieve (i ∷ is) x items out = refl

claim_medium : {M : Type 0} (told : M → MediumView) (x : Mounted M) (a : Answer) (out : Hand M) → medium_held told (claimed_state x a out) ≡ Some (told x.medium)
claim_medium told x (answer.Batch items evicted) out = batch_medium told x.direction items.items x items out
claim_medium told x _ out = refl

-- where an answer leaves the medium of a session
medium_leads : {M : Type 0} (told : M → MediumView) (h later : History) (shelf : List (Option MediumView)) (d : ℕ) (s : State M) (w : Asked) (k : Ask) (q : Hand M) (a : Answer) (out : Hand M) → FitsAsk told h d s w k q
    → HandBack told (is_accepted (bare_answer a)) h later k (bare_answer a) q out → TakesOut told shelf k (bare_answer a) out
    → medium_held told (state_after w s a out) ≡ medium_behind shelf (medium_left told s (Some (k, q))) (Some k) (Some (bare_answer a))
medium_leads told h later shelf d s w (ask.Next n) q a out f back takes =
    ap (λ z. medium_held told (state_after z s a out)) f.asked ∙ next_medium told h later shelf n a q out back takes
    ∙ ap (λ z. medium_behind shelf (medium_held told z) (Some (ask.Next n)) (Some (bare_answer a))) (sym f.state)
medium_leads told h later shelf d s w (ask.Claim m) q a out f back takes =
    ap (λ z. medium_held told (state_after z s a out)) f.asked ∙ ap (λ z. medium_held told (state_after asked.Claim z a out)) f.state ∙ claim_medium told f.mounted a out ∙ ap (medium_held told) (sym f.state)
medium_leads told h later shelf d s w (ask.Flushed m items) q a out f back takes = ap (λ z. medium_held told (state_after z s a out)) f.asked
medium_leads told h later shelf d s w (ask.Recalled m job) q a out f back takes = ap (λ z. medium_held told (state_after z s a out)) f.asked
medium_leads told h later shelf d s w (ask.Failed m fault charged returned) q a out f back takes = ap (λ z. medium_held told (state_after z s a out)) f.asked
medium_leads told h later shelf d s w (ask.End m fault) q a out f back takes = ap (λ z. medium_held told (state_after z s a out)) f.asked ∙ ap (medium_held told) f.state
medium_leads told h later shelf d s w _ q a out f back takes = absurd f

-- the lists of an ask have nothing to do with its medium
left_bare : {M : Type 0} (told : M → MediumView) (s : State M) (k : Ask) (q : Hand M) → medium_left told s (Some (bare_ask k, q)) ≡ medium_left told s (Some (k, q))
left_bare told s (ask.Flushed m items) q = refl
left_bare told s _ q = refl

-- what a session asks is fit, with no room to spare too
pub asks_fit : {M : Type 0} (told : M → MediumView) → AsksAreFit told → (kept : Kept) (m : Memo M) (k : Ask) (q : Hand M) → FitsOpen told kept.site kept.history m.number m.state m.asked k q → IsFit kept.site kept.history (bare_ask k)
asks_fit told fits kept m k q asking =
    (fits kept.site kept.history m.number m.state m.asked (bare_ask k) q (record { known = asking.known; asked = open_bare told kept.history m.number m.state m.asked k q asking.asked })).0

module _ {M : Type 0} (told : M → MediumView) (fits : AsksAreFit told) (knows : AsksAreKnown told) (leads : AnsweredSessionFits told) (by_phase : AnswersLeadByPhase M) where
  pub asked_of : (kept now : Kept) (m m' : Memo M) (t : ℕ) (k : Ask) (q out : Hand M) (a : Answer) (l : StepLine) → IsLegal kept.site kept.history → t ≤ greatest_moment
      → FitsOpen told kept.site kept.history m.number m.state m.asked k q → IsIdleFor kept.history m.number (bare_ask k) → bare_answer a ≡ answer_of kept.site kept.history t (bare_ask k)
      → now ≡ kept_after kept t (bare_ask k) (bare_answer a) (medium_in told q) → TakesOut told kept.shelf (bare_ask k) (bare_answer a) out → now.site ≡ kept.site → HandBack told (is_accepted (bare_answer a)) kept.history now.history (bare_ask k) (bare_answer a) q out
      → l ≡ line_after m.asked m.state a out → m' ≡ record m { state = state_after m.asked m.state a out; asked = asked.Nothing l } → m.kept ≡ None → is_memory l ≡ false
      → IsAskedOf told kept now m m' t (bare_ask k) (medium_left told m.state (Some (k, q))) l
  asked_of kept now m m' t k q out a l legal low asking idle answered keeps takes site back line memo none memory =
      let asks : FitsAsk told kept.history m.number m.state m.asked (bare_ask k) q = open_bare told kept.history m.number m.state m.asked k q asking.asked in
      let asking' : FitsOpen told kept.site kept.history m.number m.state m.asked (bare_ask k) q = record { known = asking.known; asked = asks } in
      let grown : now.history ≡ history_after kept.site kept.history t (bare_ask k) = ap (λ (n : Kept). n.history) keeps ∙ history_same kept t (bare_ask k) (bare_answer a) (medium_in told q) answered in
      let back' = subst (λ x. HandBack told (is_accepted x) kept.history (history_after kept.site kept.history t (bare_ask k)) (bare_ask k) x q out) answered
      (subst (λ h. HandBack told (is_accepted (bare_answer a)) kept.history h (bare_ask k) (bare_answer a) q out) grown back) in
      let led = leads kept.site kept.history t m.number m.state m.asked (bare_ask k) q out legal low asking' back' in
      let led' = subst (λ x. FitsState told kept.site (history_after kept.site kept.history t (bare_ask k)) m.number (state_after m.asked m.state x out)) (sym answered) led in
      let fits' : FitsState told kept.site (history_after kept.site kept.history t (bare_ask k)) m.number (state_after m.asked m.state a out) =
      record { known = led'.known; state = state_bare told (history_after kept.site kept.history t (bare_ask k)) m.number m.asked m.state a out led'.state } in
      let goes = goes_with told kept.history now.history m.number m.state m.asked (bare_ask k) q a out asks back in
      let phases = by_phase m.asked m.state a out goes in
      let state_is : m'.state ≡ state_after m.asked m.state a out = ap (λ (x : Memo M). x.state) memo in
      record {
        fit = (fits kept.site kept.history m.number m.state m.asked (bare_ask k) q asking').0;
        known = knows kept.site kept.history t m.number m.state m.asked (bare_ask k) q asking';
        keeps = keeps ∙ brought_left told kept.history m.number t m.state m.asked k q kept (bare_answer a) asks ∙ ap (λ (x : Answer). kept_after kept t (bare_ask k) x (medium_left told m.state (Some (k, q)))) answered;
        medium = ap (medium_held told) state_is ∙ medium_leads told kept.history now.history kept.shelf m.number m.state m.asked (bare_ask k) q a out asks back takes
            ∙ ap (λ (l : Option MediumView). medium_behind kept.shelf l (Some (bare_ask k)) (Some (bare_answer a))) (left_bare told m.state k q)
            ∙ ap (λ (x : Answer). medium_behind kept.shelf (medium_left told m.state (Some (k, q))) (Some (bare_ask k)) (Some x)) answered;
        number = ap (λ (x : Memo M). x.number) memo;
        kept = ap (λ (x : Memo M). x.kept) memo ∙ none;
        rest = ap (λ (x : Memo M). is_asking x.asked) memo;
        fits = rw (site, grown, memo) fits';
        line = line ∙ phases.line ∙ sym (line_by-bare m.asked (phase_of m.state) a) ∙ ap (line_by m.asked (phase_of m.state)) answered;
        phase = ap phase_of state_is ∙ phases.phase ∙ sym (phase_after-bare m.asked (phase_of m.state) a) ∙ ap (phase_after m.asked (phase_of m.state)) answered;
        loaded = ap is_loaded_in state_is ∙ same_loaded told kept.history m.number m.state m.asked (bare_ask k) q a out asks;
        memory = memory;
        about = ask_about told kept.history m.number m.state m.asked (bare_ask k) q asks;
        led = (a, (out, line));
        free = λ f. subst (λ h. HasNoMount h m.number) (sym grown)
            (freed told kept.site kept.history legal t m.number m.state m.asked (bare_ask k) q out a asks idle answered goes (subst IsFree state_is f));
      }
