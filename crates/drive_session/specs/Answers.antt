-- What answers lead to: the next state, and the line.
use Rattle.std.specs.Prelude.{ℕ, ◌-◌, ◌^◌, min, List, [], ◌∷◌, length, Bool, true, false, count_by}
use Rattle.cta_site.specs.Listed.{Listed}
use Rattle.cta_model.specs.declared.answers.Answer.{Answer}
use Rattle.cta_model.specs.declared.answers.Answer.TheVariants as answer
use Rattle.cta_model.specs.declared.asks.Direction.{Direction}
use Rattle.cta_model.specs.declared.asks.Direction.TheVariants as direction
use Rattle.cta_model.specs.declared.asks.Fate.{Fate}
use Rattle.cta_model.specs.declared.asks.Fate.TheVariants as fate
use Rattle.cta_model.specs.declared.asks.Item.{Item}
use Rattle.cta_model.specs.declared.hands.Hand.{Hand}
use Rattle.cta_model.specs.declared.hands.Hand.TheVariants as hand
use Rattle.cta_model.specs.Places.{is_done}
use Rattle.drive_session.specs.declared.reports.ReadEnd.{ReadEnd}
use Rattle.drive_session.specs.declared.reports.ReadEnd.TheVariants as end
use Rattle.drive_session.specs.declared.reports.StepLine.{StepLine}
use Rattle.drive_session.specs.declared.reports.StepLine.TheVariants as line
use Rattle.drive_session.specs.declared.states.Asked.{Asked}
use Rattle.drive_session.specs.declared.states.Asked.TheVariants as asked
use Rattle.drive_session.specs.declared.states.Mounted.{Mounted}
use Rattle.drive_session.specs.declared.states.Outcome.{Outcome}
use Rattle.drive_session.specs.declared.states.Outcome.TheVariants as outcome
use Rattle.drive_session.specs.declared.states.State.{State}
use Rattle.drive_session.specs.declared.states.State.TheVariants as state

-- a number of items as a line tells it: lines have numbers of 32 bits
abbrev pub counted : ℕ → ℕ
counted n = min n (2 ^ 32 - 1)

-- ---- a Next

-- a mount is held with its medium, and otherwise the drive stays free
abbrev pub next_state : {M : Type 0} → Answer → Hand M → State M
next_state (answer.Mounted m way v) (hand.Medium y) = state.Held (record { mount = m; direction = way; tape = v; medium = y })
next_state _ _ = state.Free

-- mount, idle, down, busy; full for a history without room
abbrev pub next_line : {M : Type 0} → Answer → Hand M → StepLine
next_line (answer.Mounted m way v) (hand.Medium y) = line.Mount way v
next_line answer.Idle k = line.Idle
next_line answer.DriveDown k = line.Down
next_line answer.DriveBusy k = line.Busy
next_line _ k = line.Full

-- ---- a Claim

-- a batch is written with its contents, or read; a mount that gets no batch is left
abbrev pub batch_by : {M : Type 0} → Direction → List Item → Mounted M → Listed Item → Hand M → State M
batch_by way [] x items k = state.Leaving x
batch_by direction.Archive (i ∷ is) x items (hand.Blobs blobs) = state.Claimed x items blobs
batch_by direction.Archive (i ∷ is) x items _ = state.Leaving x
batch_by direction.Retrieve (i ∷ is) x items k = state.Reading x items 0

-- where a batch leads a mount
abbrev pub batch_state : {M : Type 0} → Mounted M → Listed Item → Hand M → State M
batch_state x items k = batch_by x.direction items.items x items k

-- where the answer to a Claim leads a mount
abbrev pub claimed_state : {M : Type 0} → Mounted M → Answer → Hand M → State M
claimed_state x (answer.Batch items evicted) k = batch_state x items k
claimed_state x _ k = state.Leaving x

-- claim with the number of items
abbrev pub batch_told : {M : Type 0} → Direction → List Item → Hand M → StepLine
batch_told way [] k = line.Claim 0
batch_told direction.Archive (i ∷ is) (hand.Blobs blobs) = line.Claim (counted (length (i ∷ is)))
batch_told direction.Archive (i ∷ is) _ = line.ClaimFull
batch_told direction.Retrieve (i ∷ is) k = line.Claim (counted (length (i ∷ is)))

-- the line of a batch
abbrev pub batch_line : {M : Type 0} → Mounted M → Listed Item → Hand M → StepLine
batch_line x items k = batch_told x.direction items.items k

-- claim with the number of items, 0 where there is none; claim full for a history without room
abbrev pub claimed_line : {M : Type 0} → Mounted M → Answer → Hand M → StepLine
claimed_line x (answer.Batch items evicted) k = batch_line x items k
claimed_line x answer.Nothing k = line.Claim 0
claimed_line x _ k = line.ClaimFull

-- ---- what was written and read

-- flush with the items that are on tape, and those whose jobs had ended
abbrev pub flush_line : Answer → StepLine
flush_line (answer.Told fates) = line.Flush (counted (count_by is_done fates.items)) (counted (length fates.items - count_by is_done fates.items))
flush_line _ = line.Flush 0 0

-- how a read ended whose content was handed in
abbrev pub end_of : Fate → ReadEnd
end_of fate.Done = end.Done
end_of fate.Stale = end.Stale

-- read with how it ended
abbrev pub recalled_line : ℕ → Answer → StepLine
recalled_line s (answer.Arrived fate) = line.Read s (end_of fate)
recalled_line s _ = line.Read s end.Stale

-- the line of what is known
abbrev pub line_of : Outcome → StepLine
line_of outcome.Load = line.Load false
line_of (outcome.Write s) = line.Write s false
line_of outcome.Flush = line.FlushFailed
line_of (outcome.Read s) = line.Read s end.Failed
line_of (outcome.Mismatch s) = line.Read s end.Mismatch
line_of (outcome.Unload ok) = line.Unload ok

-- ---- all asks

-- the state behind an answer: only a Next and a Claim lead to another one, all other asks have led to it already
abbrev pub state_after : {M : Type 0} → Asked → State M → Answer → Hand M → State M
state_after asked.Next s a k = next_state a k
state_after asked.Claim (state.Ready x) a k = claimed_state x a k
state_after _ s a k = s

-- the line of a step behind an answer; where no ask was open, that of the last step
abbrev pub line_after : {M : Type 0} → Asked → State M → Answer → Hand M → StepLine
line_after asked.Next s a k = next_line a k
line_after asked.Claim (state.Ready x) a k = claimed_line x a k
line_after asked.Claim s a k = line.ClaimFull
line_after asked.Flushed s a k = flush_line a
line_after (asked.Recalled n) s a k = recalled_line n a
line_after (asked.Known o) s a k = line_of o
line_after (asked.Nothing l) s a k = l

-- whether an ask is open
abbrev pub is_asking : Asked → Bool
is_asking (asked.Nothing l) = false
is_asking _ = true

-- the line of the last step, where no ask is open
abbrev pub said : Asked → StepLine
said (asked.Nothing l) = l
said _ = line.Idle

-- whether a line tells of a want of memory
abbrev pub is_memory : StepLine → Bool
is_memory line.Memory = true
is_memory _ = false
