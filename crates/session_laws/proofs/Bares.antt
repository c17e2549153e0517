-- An ask and an answer with no room to spare in their lists, and the state of a session behind them.
use Rattle.std.proofs.Common.{◌≡◌, ℕ, true, false, List, [], ◌∷◌, refl}
use Rattle.blob.specs.Records.{MediumView}
use Rattle.cta_site.specs.Listed.{Listed, rows}
use Rattle.cta_model.specs.declared.answers.Answer.{Answer}
use Rattle.cta_model.specs.declared.answers.Answer.TheVariants as answer
use Rattle.cta_model.specs.declared.asks.Ask.{Ask}
use Rattle.cta_model.specs.declared.asks.Ask.TheVariants as ask
use Rattle.cta_model.specs.declared.asks.Direction.{Direction}
use Rattle.cta_model.specs.declared.asks.Direction.TheVariants as direction
use Rattle.cta_model.specs.declared.asks.Item.{Item}
use Rattle.cta_model.specs.declared.hands.Hand.{Hand}
use Rattle.cta_model.specs.declared.hands.Hand.TheVariants as hand
use Rattle.cta_model.specs.Bare.{bare_answer, bare_ask}
use Rattle.cta_model.specs.History.{History}
use Rattle.drive_session.specs.declared.states.Asked.{Asked}
use Rattle.drive_session.specs.declared.states.Asked.TheVariants as asked
use Rattle.drive_session.specs.declared.states.Mounted.{Mounted}
use Rattle.drive_session.specs.declared.states.State.{State}
use Rattle.drive_session.specs.declared.states.State.TheVariants as state
use Rattle.drive_session.specs.Answers.{batch_by, claimed_state, next_state, state_after}
use Rattle.drive_session.specs.Fits.{FitsAsk, FitsIn}
use Rattle.drive_session.specs.Steps.{is_loaded_in}

-- ---- the room in lists

-- an ask that fits fits with no room to spare
pub open_bare : {M : Type 0} (told : M → MediumView) (h : History) (d : ℕ) (s : State M) (w : Asked) (k : Ask) (q : Hand M) → FitsAsk told h d s w k q → FitsAsk told h d s w (bare_ask k) q
open_bare told h d s w (ask.Put who path sum) q f = f
open_bare told h d s w _ q f = f

-- a state behind an answer fits where the one behind the answer with no room to spare does
next_bare : {M : Type 0} (told : M → MediumView) (h : History) (d : ℕ) (a : Answer) (k : Hand M) → FitsIn told h d (next_state (bare_answer a) k) → FitsIn told h d (next_state a k)
next_bare told h d (answer.Mounted n way v) k f = f
next_bare told h d _ k f = f

batch_bare : {M : Type 0} (told : M → MediumView) (h : History) (d : ℕ) (way : Direction) (is : List Item) (x : Mounted M) (items items' : Listed Item) (k : Hand M) → items.items ≡ items'.items
    → FitsIn told h d (batch_by way is x items' k) → FitsIn told h d (batch_by way is x items k)
batch_bare told h d way [] x items items' k e f = f
batch_bare told h d direction.Archive (i ∷ is) x items items' (hand.Blobs blobs) e f = rw e f
batch_bare told h d direction.Archive (i ∷ is) x items items' _ e f = f
batch_bare told h d direction.Retrieve (i ∷ is) x items items' k e f = rw e f

claim_bare : {M : Type 0} (told : M → MediumView) (h : History) (d : ℕ) (x : Mounted M) (a : Answer) (k : Hand M) → FitsIn told h d (claimed_state x (bare_answer a) k) → FitsIn told h d (claimed_state x a k)
claim_bare told h d x (answer.Batch items evicted) k f = batch_bare told h d x.direction items.items x items (rows items.items) k refl f
claim_bare told h d x _ k f = f

pub state_bare : {M : Type 0} (told : M → MediumView) (h : History) (d : ℕ) (w : Asked) (s : State M) (a : Answer) (k : Hand M) → FitsIn told h d (state_after w s (bare_answer a) k) → FitsIn told h d (state_after w s a k)
state_bare told h d asked.Next s a k f = next_bare told h d a k f
state_bare told h d asked.Claim (state.Ready x) a k f = claim_bare told h d x a k f
state_bare told h d asked.Claim _ a k f = f
state_bare told h d _ s a k f = f

-- ---- whether the drive is loaded

next_unloaded : {M : Type 0} (a : Answer) (k : Hand M) → is_loaded_in (next_state a k) ≡ false
next_unloaded (answer.Mounted n way v) (hand.Medium y) = refl
next_unloaded (answer.Mounted n way v) _ = refl
next_unloaded _ k = refl

batch_loaded : {M : Type 0} (way : Direction) (is : List Item) (x : Mounted M) (items : Listed Item) (k : Hand M) → is_loaded_in (batch_by way is x items k) ≡ true
batch_loaded way [] x items k = refl
batch_loaded direction.Archive (i ∷ is) x items (hand.Blobs blobs) = refl
batch_loaded direction.Archive (i ∷ is) x items _ = refl
batch_loaded direction.Retrieve (i ∷ is) x items k = refl

claim_loaded : {M : Type 0} (x : Mounted M) (a : Answer) (k : Hand M) → is_loaded_in (claimed_state x a k) ≡ true
claim_loaded x (answer.Batch items evicted) k = batch_loaded x.direction items.items x items k
claim_loaded x _ k = refl

-- an answer changes nothing of whether the drive is loaded
pub same_loaded : {M : Type 0} (told : M → MediumView) (h : History) (d : ℕ) (s : State M) (w : Asked) (k : Ask) (q : Hand M) (a : Answer) (out : Hand M) → FitsAsk told h d s w k q → is_loaded_in (state_after w s a out) ≡ is_loaded_in s
same_loaded told h d s w (ask.Next n) q a out f = rw (f.asked, f.state) (next_unloaded a out)
same_loaded told h d s w (ask.Claim m) q a out f = rw (f.asked, f.state) (claim_loaded f.mounted a out)
same_loaded told h d s w (ask.Flushed m items) q a out f = rw f.asked refl
same_loaded told h d s w (ask.Recalled m job) q a out f = rw f.asked refl
same_loaded told h d s w (ask.Failed m fault charged returned) q a out f = rw f.asked refl
same_loaded told h d s w (ask.End m fault) q a out f = rw f.asked refl
same_loaded told h d s w _ q a out f = absurd f
