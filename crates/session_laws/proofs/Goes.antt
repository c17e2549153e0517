-- What comes back with an answer.
use Rattle.std.proofs.Common.{◌≡◌, ℕ, List, sym, subst, ◌∙◌, ap}
use Rattle.std.specs.Prelude.{Option, Some}
use Rattle.blob.specs.Records.{MediumView}
use Rattle.cta_model.specs.declared.answers.Answer.{Answer}
use Rattle.cta_model.specs.declared.answers.Answer.TheVariants as answer
use Rattle.cta_model.specs.declared.asks.Ask.{Ask}
use Rattle.cta_model.specs.declared.asks.Ask.TheVariants as ask
use Rattle.cta_model.specs.declared.asks.Direction.{Direction}
use Rattle.cta_model.specs.declared.asks.Item.{Item}
use Rattle.cta_model.specs.declared.hands.Hand.{Hand}
use Rattle.cta_model.specs.declared.hands.Hand.TheVariants as hand
use Rattle.cta_model.specs.Answers.{answer_of, is_accepted}
use Rattle.cta_model.specs.Hands.{BatchHand, HandBack}
use Rattle.cta_model.specs.History.{History}
use Rattle.cta_model.specs.Kept.{history_after}
use Rattle.cta_model.specs.Mounts.{mount_of}
use Rattle.drive_session.specs.declared.states.Asked.{Asked}
use Rattle.drive_session.specs.declared.states.Asked.TheVariants as asked
use Rattle.drive_session.specs.declared.states.Mounted.{Mounted}
use Rattle.drive_session.specs.declared.states.State.{State}
use Rattle.drive_session.specs.declared.states.State.TheVariants as state
use Rattle.drive_session.specs.Fits.{FitsAsk}
use Rattle.drive_session.specs.Table.{GoesWith, IsBatchHand}
use Rattle.session_laws.specs.Laws.{AnswersComeWithHands}

next_goes : {M : Type 0} (told : M → MediumView) (h later : History) (k : ℕ) (s : State M) (b : Answer) (q out : Hand M) → HandBack told (is_accepted b) h later (ask.Next k) b q out → GoesWith asked.Next s b out
next_goes told h later k s (answer.Mounted m way v) q (hand.Medium y) back = tt
next_goes told h later k s (answer.Mounted m way v) q hand.Nothing back = absurd back
next_goes told h later k s (answer.Mounted m way v) q (hand.Blob y) back = absurd back
next_goes told h later k s (answer.Mounted m way v) q (hand.Blobs y) back = absurd back
next_goes told h later k s _ q out back = tt

batch_goes : {M : Type 0} (d : ℕ) (way : Direction) (v : ℕ) (items : List Item) (out : Hand M) → BatchHand (Some (record { drive = d; direction = way; tape = v })) items out → IsBatchHand way out
batch_goes {M = M} d way v items (hand.Blobs blobs) is = subst (λ w. IsBatchHand {M = M} w (hand.Blobs blobs)) (sym is.0) tt
batch_goes {M = M} d way v items hand.Nothing is = subst (λ w. IsBatchHand {M = M} w hand.Nothing) (sym is) tt
batch_goes d way v items (hand.Blob blob) is = absurd is
batch_goes d way v items (hand.Medium y) is = absurd is

claim_goes : {M : Type 0} (told : M → MediumView) (h later : History) (d m : ℕ) (x : Mounted M) (b : Answer) (q out : Hand M) → mount_of h m ≡ Some (record { drive = d; direction = x.direction; tape = x.tape })
    → HandBack told (is_accepted b) h later (ask.Claim m) b q out → GoesWith asked.Claim (state.Ready x) b out
claim_goes told h later d m x (answer.Batch items evicted) q out mount back = batch_goes d x.direction x.tape items.items out (subst (λ o. BatchHand o items.items out) mount back)
claim_goes told h later d m x _ q out mount back = tt

goes : {M : Type 0} (told : M → MediumView) (h later : History) (d : ℕ) (s : State M) (w : Asked) (a : Ask) (b : Answer) (q out : Hand M) → FitsAsk told h d s w a q → HandBack told (is_accepted b) h later a b q out → GoesWith w s b out
goes told h later d s w (ask.Next k) b q out is back = subst (λ w. GoesWith w s b out) (sym is.asked) (next_goes told h later k s b q out back)
goes told h later d s w (ask.Claim m) b q out is back =
    let x = is.mounted in
    subst (λ w. GoesWith w s b out) (sym is.asked)
    (subst (λ s. GoesWith asked.Claim s b out) (sym is.state) (claim_goes told h later d m x b q out (ap (mount_of h) is.mount ∙ is.rest.at.mount.mount) back))
goes told h later d s w (ask.Flushed m items) b q out is back = subst (λ w. GoesWith w s b out) (sym is.asked) tt
goes told h later d s w (ask.Recalled m job) b q out is back = subst (λ w. GoesWith w s b out) (sym is.asked) tt
goes told h later d s w (ask.Failed m f charged returned) b q out is back = subst (λ w. GoesWith w s b out) (sym is.asked) tt
goes told h later d s w (ask.End m f) b q out is back = subst (λ w. GoesWith w s b out) (sym is.asked) tt
goes told h later d s w _ b q out is back = absurd is

pub answers_come_with_hands : {M : Type 0} (told : M → MediumView) → AnswersComeWithHands told
answers_come_with_hands told site h t d s w a k out is back = goes told h (history_after site h t a) d s w a (answer_of site h t a) k out is.asked back
