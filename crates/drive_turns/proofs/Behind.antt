-- The mount of the state behind an answer.
use Rattle.std.proofs.Common.{◌≡◌, ℕ, ◌++◌, List, [], ◌∷◌, Bool, true, false, refl, sym, ap, ◌∙◌, subst}
use Rattle.std.specs.Prelude.{Option, Some, None}
use Rattle.blob.specs.Records.{MediumView}
use Rattle.cta_site.specs.Listed.{Listed}
use Rattle.cta_model.specs.declared.answers.Answer.{Answer}
use Rattle.cta_model.specs.declared.answers.Answer.TheVariants as answer
use Rattle.cta_model.specs.declared.asks.Ask.{Ask}
use Rattle.cta_model.specs.declared.asks.Ask.TheVariants as ask
use Rattle.cta_model.specs.declared.asks.Direction.{Direction}
use Rattle.cta_model.specs.declared.asks.Direction.TheVariants as direction
use Rattle.cta_model.specs.declared.asks.Item.{Item}
use Rattle.cta_model.specs.declared.asks.Job.{Job}
use Rattle.cta_model.specs.declared.hands.Hand.{Hand}
use Rattle.cta_model.specs.declared.hands.Hand.TheVariants as hand
use Rattle.cta_site.specs.declared.site.Site.{Site}
use Rattle.cta_model.specs.Answers.{answer_of}
use Rattle.cta_model.specs.Bare.{bare_ask}
use Rattle.cta_model.specs.Hands.{HandBack, HandOut}
use Rattle.cta_model.specs.History.{History}
use Rattle.drive_session.specs.declared.states.Asked.{Asked}
use Rattle.drive_session.specs.declared.states.Mounted.{Mounted}
use Rattle.drive_session.specs.declared.states.State.{State}
use Rattle.drive_session.specs.declared.states.State.TheVariants as state
use Rattle.drive_session.specs.Answers.{batch_by, claimed_state, next_state, state_after}
use Rattle.drive_session.specs.Fits.{FitsAsk, FitsResolved}
use Rattle.archive_turns.specs.Topics.{mount_asked}
use Rattle.archive_turns.specs.Fits.{IsOpenAtEnd}
use Rattle.drive_turns.specs.Seats.{state_mount}
use Rattle.drive_turns.specs.Turns.{is_of_session}

next_mount : {M : Type 0} (P : Option ℕ → Type 0) (a : Answer) (k : Hand M) → P None → ((m : ℕ) (way : Direction) (v : ℕ) (x : M) → a ≡ answer.Mounted m way v → k ≡ hand.Medium x → P (Some m)) → P (state_mount (next_state a k))
next_mount P (answer.Mounted m way v) (hand.Medium y) free held = held m way v y refl refl
next_mount P _ k free held = free

batch_mount : {M : Type 0} (way : Direction) (is : List Item) (x : Mounted M) (items : Listed Item) (k : Hand M) → state_mount (batch_by way is x items k) ≡ Some x.mount
batch_mount way [] x items k = refl
batch_mount direction.Archive (i ∷ is) x items hand.Nothing = refl
batch_mount direction.Archive (i ∷ is) x items (hand.Blob blob) = refl
batch_mount direction.Archive (i ∷ is) x items (hand.Blobs blobs) = refl
batch_mount direction.Archive (i ∷ is) x items (hand.Medium y) = refl
batch_mount direction.Retrieve (i ∷ is) x items k = refl

claim_mount : {M : Type 0} (x : Mounted M) (a : Answer) (k : Hand M) → state_mount (claimed_state x a k) ≡ Some x.mount
claim_mount x (answer.Batch items evicted) k = batch_mount x.direction items.items x items k
claim_mount x _ k = refl

resolved_mount : {M : Type 0} (told : M → MediumView) (h : History) (d m : ℕ) (jobs : List Job) (s : State M) → FitsResolved told h d m jobs s → Some m ≡ state_mount s
resolved_mount told h d m jobs state.Free f = absurd f
resolved_mount told h d m jobs (state.Held x) f = absurd f
resolved_mount told h d m jobs (state.Ready x) f = absurd f
resolved_mount told h d m jobs (state.Claimed x items blobs) f = absurd f
resolved_mount told h d m jobs (state.Writing x b) f = absurd f
resolved_mount told h d m jobs (state.Reading x items at) f = ap Some f.0
resolved_mount told h d m jobs (state.Leaving x) f = ap Some f.0

-- what holds of no mount, of the mount that was asked about, and of one that a Next has made, holds of the mount of the state behind the answer
pub mount_behind : {M : Type 0} (told : M → MediumView) (h : History) (d : ℕ) (s : State M) (w : Asked) (k : Ask) (q : Hand M) (a : Answer) (out : Hand M) (P : Option ℕ → Type 0) → FitsAsk told h d s w k q
    → P None → P (mount_asked k) → ((n m : ℕ) (way : Direction) (v : ℕ) (x : M) → k ≡ ask.Next n → a ≡ answer.Mounted m way v → out ≡ hand.Medium x → P (Some m)) → P (state_mount (state_after w s a out))
mount_behind told h d s w (ask.Next n) q a out P f free same new = rw f.asked (next_mount P a out free (λ m way v x made given. new n m way v x refl made given))
mount_behind told h d s w (ask.Claim m) q a out P f free same new = rw (f.asked, f.state) (subst P (ap Some f.mount ∙ sym (claim_mount f.mounted a out)) same)
mount_behind told h d s w (ask.Flushed m items) q a out P f free same new = rw (f.asked, f.state) (subst P (ap Some f.mount) same)
mount_behind told h d s w (ask.Recalled m job) q a out P f free same new = rw f.asked (subst P (resolved_mount told h d m (job ∷ []) s f.resolved) same)
mount_behind told h d s w (ask.Failed m fault charged returned) q a out P f free same new = rw f.asked (subst P (resolved_mount told h d m (charged.items ++ returned.items) s f.resolved) same)
mount_behind told h d s w (ask.End m fault) q a out P f free same new = rw (f.asked, f.state) free
mount_behind told h d s w _ q a out P f free same new = absurd f

-- the mount of an End that fits is open
pub open_at_end : {M : Type 0} (told : M → MediumView) (h : History) (d : ℕ) (s : State M) (w : Asked) (k : Ask) (q : Hand M) → FitsAsk told h d s w k q → IsOpenAtEnd h k
open_at_end told h d s w (ask.End m fault) q f = f.mount.still
open_at_end told h d s w _ q f = tt

-- an ask that fits is one of a session
pub session_ask : {M : Type 0} (told : M → MediumView) (h : History) (d : ℕ) (s : State M) (w : Asked) (k : Ask) (q : Hand M) → FitsAsk told h d s w k q → is_of_session k ≡ true
session_ask told h d s w (ask.Next n) q f = refl
session_ask told h d s w (ask.Claim m) q f = refl
session_ask told h d s w (ask.Flushed m items) q f = refl
session_ask told h d s w (ask.Recalled m job) q f = refl
session_ask told h d s w (ask.Failed m fault charged returned) q f = refl
session_ask told h d s w (ask.End m fault) q f = refl
session_ask told h d s w _ q f = absurd f

pub mount_asked-bare : (k : Ask) → mount_asked (bare_ask k) ≡ mount_asked k
mount_asked-bare (ask.Flushed m items) = refl
mount_asked-bare (ask.Failed m f charged returned) = refl
mount_asked-bare _ = refl

pub answer_of-bare : (site : Site) (h : History) (t : ℕ) (k : Ask) → answer_of site h t k ≡ answer_of site h t (bare_ask k)
answer_of-bare site h t (ask.Stage who files) = refl
answer_of-bare site h t (ask.Cancel who id paths) = refl
answer_of-bare site h t (ask.Release who id paths) = refl
answer_of-bare site h t (ask.Flushed m items) = refl
answer_of-bare site h t (ask.Failed m f charged returned) = refl
answer_of-bare site h t (ask.Retry who paths) = refl
answer_of-bare site h t _ = refl

-- ---- what comes back from an ask comes back from the ask with no room to spare

out_bare : {M : Type 0} (told : M → MediumView) (h later : History) (k : Ask) (a : Answer) (out : Hand M) → HandOut told h later k a out → HandOut told h later (bare_ask k) a out
out_bare told h later (ask.Flushed m items) a out is = is
out_bare told h later (ask.Failed m f charged returned) a out is = is
out_bare told h later _ a out is = is

pub back_bare : {M : Type 0} (told : M → MediumView) (b : Bool) (h later : History) (k : Ask) (a : Answer) (q out : Hand M) → HandBack told b h later k a q out → HandBack told b h later (bare_ask k) a q out
back_bare told true h later k a q out is = out_bare told h later k a out is
back_bare told false h later k a q out is = is
