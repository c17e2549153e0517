-- A session that is free behind an answer has no mount open.
use Rattle.std.proofs.Common.{◌≡◌, ℕ, inl, inr, true, List, [], ◌∷◌, refl, sym, ap, ◌∙◌, subst}
use Rattle.std.specs.Prelude.{Option, Some}
use Rattle.std.proofs.lemmas.Bool.{cases_Bool}
use Rattle.std.proofs.lemmas.Option.{none-some}
use Rattle.blob.specs.Records.{MediumView}
use Rattle.cta_site.specs.declared.site.Site.{Site}
use Rattle.cta_site.specs.Listed.{Listed}
use Rattle.cta_model.specs.declared.answers.Answer.{Answer}
use Rattle.cta_model.specs.declared.answers.Answer.TheVariants as answer
use Rattle.cta_model.specs.declared.asks.Ask.{Ask}
use Rattle.cta_model.specs.declared.asks.Ask.TheVariants as ask
use Rattle.cta_model.specs.declared.asks.Direction.{Direction}
use Rattle.cta_model.specs.declared.asks.Direction.TheVariants as direction
use Rattle.cta_model.specs.declared.asks.Fault.{Fault}
use Rattle.cta_model.specs.declared.asks.Item.{Item}
use Rattle.cta_model.specs.declared.asks.Job.{Job}
use Rattle.cta_model.specs.declared.hands.Hand.{Hand}
use Rattle.cta_model.specs.declared.hands.Hand.TheVariants as hand
use Rattle.cta_model.specs.declared.states.Mount.{Mount}
use Rattle.cta_model.specs.Answers.{answer_of, is_accepted}
use Rattle.cta_model.specs.Bare.{bare_answer}
use Rattle.cta_model.specs.History.{History, has_number, is_empty}
use Rattle.cta_model.specs.Kept.{history_after}
use Rattle.cta_model.specs.Legal.{IsLegal, new_entry}
use Rattle.cta_model.specs.Mounts.{claimed_items, is_open, mount_in, open_mounts}
use Rattle.drive_session.specs.declared.states.Asked.{Asked}
use Rattle.drive_session.specs.declared.states.Asked.TheVariants as asked
use Rattle.drive_session.specs.declared.states.Mounted.{Mounted}
use Rattle.drive_session.specs.declared.states.State.{State}
use Rattle.drive_session.specs.declared.states.State.TheVariants as state
use Rattle.drive_session.specs.Answers.{batch_by, claimed_state, next_state, state_after}
use Rattle.drive_session.specs.Fits.{FitsAsk, FitsResolved, IsMountAt}
use Rattle.drive_session.specs.Table.{Free, GoesWith, Phase, phase_of}
use Rattle.replay.specs.Desk.{HasNoMount, IsFree, IsIdleFor, IsNextOf}
use Rattle.replay.proofs.OneMount.{ended_not_open, newer_or_older, one_mount, stays_idle}

-- ---- free states and phases

abbrev IsFreePhase : Phase → Type 0
IsFreePhase Free = Unit {0}
IsFreePhase _ = ⊥

by_phase : {M : Type 0} (s : State M) → IsFreePhase (phase_of s) → IsFree s
by_phase state.Free f = tt
by_phase (state.Held x) f = f
by_phase (state.Ready x) f = f
by_phase (state.Claimed x items blobs) f = f
by_phase (state.Writing x b) f = f
by_phase (state.Reading x items at) f = f
by_phase (state.Leaving x) f = f

pub free_state : {M : Type 0} (s : State M) → phase_of s ≡ Free → IsFree s
free_state s is = by_phase s (subst IsFreePhase (sym is) tt)

pub free_phase : {M : Type 0} (s : State M) → IsFree s → phase_of s ≡ Free
free_phase state.Free f = refl
free_phase (state.Held x) f = absurd f
free_phase (state.Ready x) f = absurd f
free_phase (state.Claimed x items blobs) f = absurd f
free_phase (state.Writing x b) f = absurd f
free_phase (state.Reading x items at) f = absurd f
free_phase (state.Leaving x) f = absurd f

-- ---- which entries make a mount

-- a mount that a drive's ask makes is that drive's
pub next_makes : (d : ℕ) (k : Ask) (a : Answer) (x : Mount) → IsNextOf d k → mount_in k a ≡ Some x → x.drive ≡ d
next_makes d (ask.Next n) (answer.Mounted m way v) x is made =
    let same : Some (record { drive = n; direction = way; tape = v }) ≡ Some x = made in
    let drive : n ≡ x.drive = cc in
    sym drive ∙ is
next_makes d _ a x is made = absurd (none-some x made)

-- ---- states behind answers

next_not_free : {M : Type 0} (n : ℕ) (a : Answer) (out : Hand M) (x : Mount) → GoesWith asked.Next state.Free a out → IsFree (next_state a out) → mount_in (ask.Next n) (bare_answer a) ≡ Some x → ⊥
next_not_free n (answer.Mounted m way v) (hand.Medium y) x goes free made = free
next_not_free n (answer.Mounted m way v) hand.Nothing x goes free made = goes
next_not_free n (answer.Mounted m way v) (hand.Blob blob) x goes free made = goes
next_not_free n (answer.Mounted m way v) (hand.Blobs blobs) x goes free made = goes
next_not_free n _ out x goes free made = none-some x made

batch_not_free : {M : Type 0} (way : Direction) (is : List Item) (x : Mounted M) (items : Listed Item) (out : Hand M) → IsFree (batch_by way is x items out) → ⊥
batch_not_free way [] x items out free = free
batch_not_free direction.Archive (i ∷ is) x items (hand.Blobs blobs) free = free
batch_not_free direction.Archive (i ∷ is) x items hand.Nothing free = free
batch_not_free direction.Archive (i ∷ is) x items (hand.Blob blob) free = free
batch_not_free direction.Archive (i ∷ is) x items (hand.Medium y) free = free
batch_not_free direction.Retrieve (i ∷ is) x items out free = free

claim_not_free : {M : Type 0} (x : Mounted M) (a : Answer) (out : Hand M) → IsFree (claimed_state x a out) → ⊥
claim_not_free x (answer.Batch items evicted) out free = batch_not_free x.direction items.items x items out free
claim_not_free x _ out free = free

resolved_not_free : {M : Type 0} (told : M → MediumView) (h : History) (d m : ℕ) (jobs : List Job) (s : State M) → FitsResolved told h d m jobs s → IsFree s → ⊥
resolved_not_free told h d m jobs state.Free f free = f
resolved_not_free told h d m jobs (state.Held x) f free = f
resolved_not_free told h d m jobs (state.Ready x) f free = f
resolved_not_free told h d m jobs (state.Claimed x items blobs) f free = f
resolved_not_free told h d m jobs (state.Writing x b) f free = f
resolved_not_free told h d m jobs (state.Reading x items at) f free = free
resolved_not_free told h d m jobs (state.Leaving x) f free = free

-- ---- the end of a mount

ends : (site : Site) (h : History) (t m : ℕ) (f : Option Fault) → is_open h m ≡ true → claimed_items h m ≡ [] → answer_of site h t (ask.End m f) ≡ answer.Done
ends site h t m f still none =
    let nothing : is_empty (claimed_items h m) ≡ true = ap is_empty none in
    rw (still, nothing) refl

ended : (site : Site) (h : History) (t d m : ℕ) (f : Option Fault) (way : Direction) (v : ℕ) → IsLegal site h → IsMountAt h d m way v → HasNoMount (new_entry h t (ask.End m f) answer.Done ∷ h) d
ended site h t d m f way v legal here n way' v' at =
    elim (newer_or_older (new_entry h t (ask.End m f) answer.Done) h d n way' v' at) [
      | inl new ↦ absurd (none-some _ new.1)
      | inr old ↦ ended_not_open m (open_mounts h) (subst (λ k. has_number k (open_mounts (new_entry h t (ask.End m f) answer.Done ∷ h)) ≡ true) (one_mount site h legal d n m way' way v' v old here) at.still)
    ]

-- ---- all asks

module _ {M : Type 0} (told : M → MediumView) (site : Site) (h : History) (legal : IsLegal site h) (t d : ℕ) where
  next_freed : (n : ℕ) (a : Answer) (out : Hand M) → bare_answer a ≡ answer_of site h t (ask.Next n) → GoesWith asked.Next state.Free a out → HasNoMount h d → IsFree (next_state a out) → HasNoMount (history_after site h t (ask.Next n)) d
  next_freed n a out is goes idle free =
      elim (cases_Bool (is_accepted (answer_of site h t (ask.Next n)))) [
        | inl hit ↦
            let e = new_entry h t (ask.Next n) (answer_of site h t (ask.Next n)) in
            rw hit (stays_idle e h d (λ x made same. next_not_free n a out x goes free (ap (mount_in (ask.Next n)) is ∙ made)) idle)
        | inr miss ↦ rw miss idle
      ]

  end_freed : (m : ℕ) (f : Option Fault) (way : Direction) (v : ℕ) → IsMountAt h d m way v → claimed_items h m ≡ [] → HasNoMount (history_after site h t (ask.End m f)) d
  end_freed m f way v here none =
      let done : answer_of site h t (ask.End m f) ≡ answer.Done = ends site h t m f here.still none in
      rw done (ended site h t d m f way v legal here)

  pub freed : (s : State M) (w : Asked) (k : Ask) (q out : Hand M) (a : Answer) → FitsAsk told h d s w k q → IsIdleFor h d k → bare_answer a ≡ answer_of site h t k → GoesWith w s a out → IsFree (state_after w s a out)
      → HasNoMount (history_after site h t k) d
  freed s w (ask.Next n) q out a f idle is goes free =
      let goes' : GoesWith asked.Next state.Free a out = subst (λ x. GoesWith x state.Free a out) f.asked (subst (λ x. GoesWith w x a out) f.state goes) in
      let free' : IsFree (state_after asked.Next s a out) = subst (λ x. IsFree (state_after x s a out)) f.asked free in
      next_freed n a out is goes' idle free'
  freed s w (ask.Claim m) q out a f idle is goes free =
      let free' : IsFree (state_after asked.Claim (state.Ready f.mounted) a out) = subst (λ x. IsFree (state_after x (state.Ready f.mounted) a out)) f.asked (subst (λ x. IsFree (state_after w x a out)) f.state free) in
      absurd (claim_not_free f.mounted a out free')
  freed s w (ask.Flushed m items) q out a f idle is goes free =
      let free' : IsFree (state_after asked.Flushed (state.Ready f.mounted) a out) = subst (λ x. IsFree (state_after x (state.Ready f.mounted) a out)) f.asked (subst (λ x. IsFree (state_after w x a out)) f.state free) in
      absurd free'
  freed s w (ask.Recalled m job) q out a f idle is goes free =
      absurd (resolved_not_free told h d m (job ∷ []) s f.resolved (subst (λ x. IsFree (state_after x s a out)) f.asked free))
  freed s w (ask.Failed m fault charged returned) q out a f idle is goes free =
      absurd (resolved_not_free told h d m _ s f.resolved (subst (λ x. IsFree (state_after x s a out)) f.asked free))
  freed s w (ask.End m f') q out a f idle is goes free = end_freed m f' f.way f.tape f.mount f.claims
  freed s w (ask.Put who path sum) q out a f idle is goes free = absurd f
  freed s w (ask.Delete who path) q out a f idle is goes free = absurd f
  freed s w (ask.Stage who files) q out a f idle is goes free = absurd f
  freed s w (ask.Cancel who id paths) q out a f idle is goes free = absurd f
  freed s w (ask.DropStage who id) q out a f idle is goes free = absurd f
  freed s w (ask.Release who id paths) q out a f idle is goes free = absurd f
  freed s w (ask.DriveUp who n) q out a f idle is goes free = absurd f
  freed s w (ask.DriveDown who n) q out a f idle is goes free = absurd f
  freed s w (ask.TapeState who v st) q out a f idle is goes free = absurd f
  freed s w (ask.Reclaim who v) q out a f idle is goes free = absurd f
  freed s w (ask.Repack who v) q out a f idle is goes free = absurd f
  freed s w (ask.Retry who paths) q out a f idle is goes free = absurd f

-- a drive has no mount where that holds of each Next
pub idle_for : (h : History) (d : ℕ) (k : Ask) → ((n : ℕ) → k ≡ ask.Next n → HasNoMount h d) → IsIdleFor h d k
idle_for h d (ask.Next n) idle = idle n refl
idle_for h d _ idle = tt
