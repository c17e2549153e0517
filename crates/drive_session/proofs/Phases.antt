-- The phase behind an answer, and what a step heard.
use Rattle.std.proofs.Common.{◌≡◌, List, [], ◌∷◌, refl, ap, length}
use Rattle.cta_site.specs.Listed.{Listed}
use Rattle.cta_model.specs.declared.answers.Answer.{Answer}
use Rattle.cta_model.specs.declared.answers.Answer.TheVariants as answer
use Rattle.cta_model.specs.declared.asks.Direction.{Direction}
use Rattle.cta_model.specs.declared.asks.Direction.TheVariants as direction
use Rattle.cta_model.specs.declared.asks.Item.{Item}
use Rattle.cta_model.specs.declared.hands.Hand.{Hand}
use Rattle.cta_model.specs.declared.hands.Hand.TheVariants as hand
use Rattle.drive_session.specs.declared.reports.StepLine.TheVariants as line
use Rattle.drive_session.specs.declared.states.Asked.TheVariants as asked
use Rattle.drive_session.specs.declared.states.Mounted.{Mounted}
use Rattle.drive_session.specs.declared.states.State.{State}
use Rattle.drive_session.specs.declared.states.State.TheVariants as state
use Rattle.drive_session.specs.Answers.{batch_by, batch_told, counted}
use Rattle.drive_session.specs.Table.{AnswersLeadByPhase, GoesWith, HearsAnswers, IsBatchHand, IsLedByPhase, Reading, Writing, batch_phase, held_mount, phase_of}

batch_leads : {M : Type 0} (way : Direction) (is : List Item) (x : Mounted M) (items : Listed Item) (k : Hand M) → items.items ≡ is → IsBatchHand way k → phase_of (batch_by way is x items k) ≡ batch_phase way (held_mount x) is
batch_leads way [] x items k e goes = refl
batch_leads direction.Archive (i ∷ is) x items (hand.Blobs blobs) e goes = ap (λ xs. Writing (held_mount x) xs 0) e
batch_leads direction.Archive (i ∷ is) x items _ e goes = absurd goes
batch_leads direction.Retrieve (i ∷ is) x items k e goes = ap (λ xs. Reading (held_mount x) xs 0) e

batch_says : {M : Type 0} (way : Direction) (is : List Item) (k : Hand M) → IsBatchHand way k → batch_told way is k ≡ line.Claim (counted (length is))
batch_says way [] k goes = refl
batch_says direction.Archive (i ∷ is) (hand.Blobs blobs) goes = refl
batch_says direction.Archive (i ∷ is) _ goes = absurd goes
batch_says direction.Retrieve (i ∷ is) k goes = refl

next_leads : {M : Type 0} (s : State M) (a : Answer) (k : Hand M) → GoesWith asked.Next s a k → IsLedByPhase asked.Next s a k
next_leads s (answer.Mounted m way v) (hand.Medium y) goes = record { phase = refl; line = refl }
next_leads s (answer.Mounted m way v) _ goes = absurd goes
next_leads s answer.Idle k goes = record { phase = refl; line = refl }
next_leads s answer.DriveDown k goes = record { phase = refl; line = refl }
next_leads s answer.DriveBusy k goes = record { phase = refl; line = refl }
next_leads s _ k goes = record { phase = refl; line = refl }

claim_leads : {M : Type 0} (x : Mounted M) (a : Answer) (k : Hand M) → GoesWith asked.Claim (state.Ready x) a k → IsLedByPhase asked.Claim (state.Ready x) a k
claim_leads x (answer.Batch items evicted) k goes = record { phase = batch_leads x.direction items.items x items k refl goes; line = batch_says x.direction items.items k goes }
claim_leads x answer.Nothing k goes = record { phase = refl; line = refl }
claim_leads x _ k goes = record { phase = refl; line = refl }

pub answers_lead : {M : Type 0} → AnswersLeadByPhase M
answers_lead asked.Next s a k goes = next_leads s a k goes
answers_lead asked.Claim (state.Ready x) a k goes = claim_leads x a k goes
answers_lead asked.Claim _ a k goes = record { phase = refl; line = refl }
answers_lead asked.Flushed s a k goes = record { phase = refl; line = refl }
answers_lead (asked.Recalled n) s a k goes = record { phase = refl; line = refl }
answers_lead (asked.Known o) s a k goes = record { phase = refl; line = refl }
answers_lead (asked.Nothing l) s a k goes = record { phase = refl; line = refl }

pub hears_answers : HearsAnswers
hears_answers (asked.Nothing line.Memory) e other = absurd (cc)
hears_answers (asked.Nothing l) e other = refl
hears_answers w e other = refl
