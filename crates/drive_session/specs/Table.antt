-- The table of a session: what a step asks and where it leads, by where the session stands and what the device answered.
use Rattle.std.specs.Prelude.{ℕ, ◌+◌, ◌≡◌, ⊤, length, List, [], ◌∷◌, ◌++◌, take, drop, slice_get, Option, Some, None, if◌then◌else◌, ◌==◌, true, false}
use Rattle.cta_site.specs.Listed.{rows}
use Rattle.cta_model.specs.declared.answers.Answer.{Answer}
use Rattle.cta_model.specs.declared.answers.Answer.TheVariants as answer
use Rattle.cta_model.specs.declared.asks.Ask.{Ask}
use Rattle.cta_model.specs.declared.asks.Ask.TheVariants as ask
use Rattle.cta_model.specs.declared.asks.Direction.{Direction}
use Rattle.cta_model.specs.declared.asks.Direction.TheVariants as direction
use Rattle.cta_model.specs.declared.asks.Fault.{Fault}
use Rattle.cta_model.specs.declared.asks.Fault.TheVariants as fault
use Rattle.cta_model.specs.declared.asks.Item.{Item}
use Rattle.cta_model.specs.declared.asks.Job.{Job}
use Rattle.cta_model.specs.declared.hands.Hand.{Hand}
use Rattle.cta_model.specs.declared.hands.Hand.TheVariants as hand
use Rattle.cta_model.specs.Bare.{bare_ask}
use Rattle.cta_model.specs.Mounts.{item_jobs}
use Rattle.drive_session.specs.declared.reports.Call.TheVariants as call
use Rattle.drive_session.specs.declared.reports.Done.{Done}
use Rattle.drive_session.specs.declared.reports.Done.TheVariants as done
use Rattle.drive_session.specs.declared.reports.StepLine.{StepLine}
use Rattle.drive_session.specs.declared.reports.StepLine.TheVariants as line
use Rattle.drive_session.specs.declared.states.Asked.{Asked}
use Rattle.drive_session.specs.declared.states.Asked.TheVariants as asked
use Rattle.drive_session.specs.declared.states.Mounted.{Mounted}
use Rattle.drive_session.specs.declared.states.Outcome.{Outcome}
use Rattle.drive_session.specs.declared.states.Outcome.TheVariants as outcome
use Rattle.drive_session.specs.declared.states.State.{State}
use Rattle.drive_session.specs.declared.states.State.TheVariants as state
use Rattle.drive_session.specs.declared.states.Step.{Step}
use Rattle.drive_session.specs.Answers.{counted, flush_line, is_memory, line_after, line_of, recalled_line, said, state_after}

-- ---- phases

-- a mount that a session holds: its number, direction and tape, without the medium
pub record HeldMount : Type 0 where
  pub mount : ℕ
  pub direction : Direction
  pub tape : ℕ

-- the phase of a session: its state without medium and contents; of a batch the items, and how many of them are written or read
pub data Phase : Type 0 where
  Free : Phase
  Held : HeldMount → Phase
  Ready : HeldMount → Phase
  Writing : HeldMount → List Item → ℕ → Phase
  Reading : HeldMount → List Item → ℕ → Phase
  Leaving : HeldMount → Phase

-- the mount without its medium
abbrev pub held_mount : {M : Type 0} → Mounted M → HeldMount
held_mount x = record { mount = x.mount; direction = x.direction; tape = x.tape }

-- the phase of a state: a batch before its first write is one of which no item is written
abbrev pub phase_of : {M : Type 0} → State M → Phase
phase_of state.Free = Free
phase_of (state.Held x) = Held (held_mount x)
phase_of (state.Ready x) = Ready (held_mount x)
phase_of (state.Claimed x items blobs) = Writing (held_mount x) items.items 0
phase_of (state.Writing x b) = Writing (held_mount x) b.items.items b.at
phase_of (state.Reading x items at) = Reading (held_mount x) items.items at
phase_of (state.Leaving x) = Leaving (held_mount x)

-- ---- rows

-- a row: what is asked, with no room to spare; what the ask is about, or the line where nothing is asked; and the phase behind the step
pub record Row : Type 0 where
  pub ask : Option Ask
  pub asked : Asked
  pub phase : Phase

-- a row that asks this
abbrev pub asks : Ask → Asked → Phase → Option Row
asks a w p = Some (record { ask = Some a; asked = w; phase = p })

-- a row that asks nothing
abbrev pub says : StepLine → Phase → Option Row
says l p = Some (record { ask = None; asked = asked.Nothing l; phase = p })

-- a row for one number alone
abbrev pub only_at : ℕ → ℕ → Option Row → Option Row
only_at n s row = if s == n then row else None

-- the jobs but the one at a place
abbrev pub others_at : List Job → ℕ → List Job
others_at jobs n = take n jobs ++ drop (n + 1) jobs

-- Free: a Next
abbrev pub free_row : ℕ → Option Done → Option Row
free_row d None = asks (ask.Next d) asked.Next Free
free_row d _ = None

-- Held: a load, after a fault an End
abbrev pub held_row : HeldMount → Option Done → Option Row
held_row x (Some (done.Ok call.Load)) = says (line.Load true) (Ready x)
held_row x (Some (done.Fault call.Load)) = asks (ask.End x.mount (Some fault.Load)) (asked.Known outcome.Load) Free
held_row x _ = None

-- Ready: a Claim
abbrev pub ready_row : HeldMount → Option Done → Option Row
ready_row x None = asks (ask.Claim x.mount) asked.Claim (Ready x)
ready_row x _ = None

-- Writing with an item left: a write of it; a fault charges it and returns all others of the batch; the lists that a fault needs are made before the first write
abbrev pub write_row : HeldMount → List Item → ℕ → Item → Option Done → Option Row
write_row x items at i (Some (done.Ok (call.Write s))) = only_at i.fseq s (says (line.Write i.fseq true) (Writing x items (at + 1)))
write_row x items at i (Some (done.Fault (call.Write s))) =
    only_at i.fseq s (asks (ask.Failed x.mount fault.Write (rows (i.job ∷ [])) (rows (others_at (item_jobs items) at))) (asked.Known (outcome.Write i.fseq)) (Leaving x))
write_row x items at i (Some (done.NoMemory (call.Write s))) = only_at i.fseq s (says line.Memory (Writing x items at))
write_row x items at i None = only_at 0 at (says line.Memory (Writing x items at))
write_row x items at i _ = None

-- Writing with no item left: a flush, then Flushed; a fault charges all items
abbrev pub flush_row : HeldMount → List Item → Option Done → Option Row
flush_row x items (Some (done.Ok call.Flush)) = asks (ask.Flushed x.mount (rows items)) asked.Flushed (Ready x)
flush_row x items (Some (done.Fault call.Flush)) = asks (ask.Failed x.mount fault.Flush (rows (item_jobs items)) (rows [])) (asked.Known outcome.Flush) (Leaving x)
flush_row x items _ = None

-- Writing, by the next item
abbrev pub writing_row : HeldMount → List Item → ℕ → Option Item → Option Done → Option Row
writing_row x items at (Some i) e = write_row x items at i e
writing_row x items at None e = flush_row x items e

-- an item that was not read is charged alone, and the session goes on
abbrev pub unread_row : HeldMount → List Item → ℕ → Item → Fault → Outcome → Option Row
unread_row x items at i f o = asks (ask.Failed x.mount f (rows (i.job ∷ [])) (rows [])) (asked.Known o) (Reading x items (at + 1))

-- Reading with an item left: a read of it, then Recalled; a fault, or a content with another sum, charges it; what a fault needs is made before the read
abbrev pub read_row : HeldMount → List Item → ℕ → Item → Option Done → Option Row
read_row x items at i (Some (done.Ok (call.Read s))) = only_at i.fseq s (asks (ask.Recalled x.mount i.job) (asked.Recalled i.fseq) (Reading x items (at + 1)))
read_row x items at i (Some (done.Fault (call.Read s))) = only_at i.fseq s (unread_row x items at i fault.Read (outcome.Read i.fseq))
read_row x items at i (Some (done.Mismatch found wanted)) = unread_row x items at i (fault.Mismatch found i.sum) (outcome.Mismatch i.fseq)
read_row x items at i (Some (done.NoMemory (call.Read s))) = only_at i.fseq s (says line.Memory (Reading x items at))
read_row x items at i None = says line.Memory (Reading x items at)
read_row x items at i _ = None

-- Reading, by the next item: with none left it is as Ready
abbrev pub reading_row : HeldMount → List Item → ℕ → Option Item → Option Done → Option Row
reading_row x items at (Some i) e = read_row x items at i e
reading_row x items at None e = ready_row x e

-- Leaving: an unload, then an End
abbrev pub leaving_row : HeldMount → Option Done → Option Row
leaving_row x (Some (done.Ok call.Unload)) = asks (ask.End x.mount None) (asked.Known (outcome.Unload true)) Free
leaving_row x (Some (done.Fault call.Unload)) = asks (ask.End x.mount (Some fault.Unload)) (asked.Known (outcome.Unload false)) Free
leaving_row x _ = None

-- the table: the row of a drive's session in a phase for what the device answered, where it has one; without a call there is no answer
abbrev pub row_of : ℕ → Phase → Option Done → Option Row
row_of d Free e = free_row d e
row_of d (Held x) e = held_row x e
row_of d (Ready x) e = ready_row x e
row_of d (Writing x items at) e = writing_row x items at (slice_get items at) e
row_of d (Reading x items at) e = reading_row x items at (slice_get items at) e
row_of d (Leaving x) e = leaving_row x e

-- ---- steps

-- an ask without what goes with it, and with no room to spare
abbrev pub ask_alone : {M : Type 0} → Option (Ask × Hand M) → Option Ask
ask_alone None = None
ask_alone (Some (a, k)) = Some (bare_ask a)

-- a step as a row
abbrev pub row_by : {M : Type 0} → Step M → Row
row_by s = record { ask = ask_alone s.report.ask; asked = s.asked; phase = phase_of s.state }

-- what a step heard of the device: a content that was read, but for which the session found no memory, is as one for which the device found none
abbrev pub heard : Asked → Option Done → Option Done
heard (asked.Nothing line.Memory) (Some (done.Ok (call.Read s))) = Some (done.NoMemory (call.Read s))
heard w e = e

-- a step whose line does not tell of a want of memory heard what the device answered
abbrev pub HearsAnswers : Type 0
HearsAnswers = (w : Asked) (e : Option Done) → is_memory (said w) ≡ false → heard w e ≡ e

-- ---- answers

-- the phase behind the answer to a Next: a mount is held, and otherwise the drive stays free
abbrev pub next_phase : Answer → Phase
next_phase (answer.Mounted m way v) = Held (record { mount = m; direction = way; tape = v })
next_phase _ = Free

-- the line of the answer to a Next
abbrev pub next_told : Answer → StepLine
next_told (answer.Mounted m way v) = line.Mount way v
next_told answer.Idle = line.Idle
next_told answer.DriveDown = line.Down
next_told answer.DriveBusy = line.Busy
next_told _ = line.Full

-- a batch is written or read from its first item on; a mount that gets none is left
abbrev pub batch_phase : Direction → HeldMount → List Item → Phase
batch_phase way x [] = Leaving x
batch_phase direction.Archive x (i ∷ is) = Writing x (i ∷ is) 0
batch_phase direction.Retrieve x (i ∷ is) = Reading x (i ∷ is) 0

-- the phase behind the answer to a Claim
abbrev pub claim_phase : HeldMount → Answer → Phase
claim_phase x (answer.Batch items evicted) = batch_phase x.direction x items.items
claim_phase x _ = Leaving x

-- the line of the answer to a Claim: the number of items, 0 where there is none; claim full for a history without room
abbrev pub claim_told : Answer → StepLine
claim_told (answer.Batch items evicted) = line.Claim (counted (length items.items))
claim_told answer.Nothing = line.Claim 0
claim_told _ = line.ClaimFull

-- the phase behind an answer: only a Next and a Claim lead to another one
abbrev pub phase_after : Asked → Phase → Answer → Phase
phase_after asked.Next p a = next_phase a
phase_after asked.Claim (Ready x) a = claim_phase x a
phase_after _ p a = p

-- the line of a step behind an answer; where nothing was asked, that of the step
abbrev pub line_by : Asked → Phase → Answer → StepLine
line_by asked.Next p a = next_told a
line_by asked.Claim (Ready x) a = claim_told a
line_by asked.Claim p a = line.ClaimFull
line_by asked.Flushed p a = flush_line a
line_by (asked.Recalled n) p a = recalled_line n a
line_by (asked.Known o) p a = line_of o
line_by (asked.Nothing l) p a = l

-- what goes with a batch: contents where it is to be written, and nothing where it is to be read
abbrev pub IsBatchHand : {M : Type 0} → Direction → Hand M → Type 0
IsBatchHand direction.Archive (hand.Blobs blobs) = ⊤
IsBatchHand direction.Retrieve hand.Nothing = ⊤
IsBatchHand way _ = ⊥

-- what goes with an answer to what a state has asked: a medium with a mount, and what its direction needs with a batch
abbrev pub GoesWith : {M : Type 0} → Asked → State M → Answer → Hand M → Type 0
GoesWith asked.Next s (answer.Mounted m way v) (hand.Medium y) = ⊤
GoesWith asked.Next s (answer.Mounted m way v) _ = ⊥
GoesWith asked.Claim (state.Ready x) (answer.Batch items evicted) k = IsBatchHand x.direction k
GoesWith _ s a k = ⊤

-- the phase behind an answer, and its line
pub record IsLedByPhase {M : Type 0} (w : Asked) (s : State M) (a : Answer) (k : Hand M) : Type 0 where
  pub phase : phase_of (state_after w s a k) ≡ phase_after w (phase_of s) a
  pub line : line_after w s a k ≡ line_by w (phase_of s) a

-- where an answer comes with what goes with it, the phase before it and the answer alone tell its line and the phase behind it
abbrev pub AnswersLeadByPhase : Type 0 → Type 0
AnswersLeadByPhase M = (w : Asked) (s : State M) (a : Answer) (k : Hand M) → GoesWith w s a k → IsLedByPhase w s a k
