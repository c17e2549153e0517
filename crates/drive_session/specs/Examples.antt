-- The rows of the table of a session, closed: two items on one tape, written by mount 2 and read by mount 3.
use Rattle.std.specs.Prelude.{◌≡◌, ℕ, [], ◌∷◌, Some, None, true, false}
use Rattle.std.specs.declared.alloc.Global.{Global}
use Rattle.std.specs.declared.sync.Arc.{Arc}
use Rattle.blob.specs.declared.blobs.Blob.{Blob}
use Rattle.blob.specs.declared.sum.Sum256.{Sum256}
use Rattle.cta_site.specs.Listed.{Listed, rows}
use Rattle.cta_model.specs.declared.answers.Answer.TheVariants as answer
use Rattle.cta_model.specs.declared.answers.Refusal.TheVariants as refusal
use Rattle.cta_model.specs.declared.asks.Ask.TheVariants as ask
use Rattle.cta_model.specs.declared.asks.Direction.TheVariants as direction
use Rattle.cta_model.specs.declared.asks.Fate.TheVariants as fate
use Rattle.cta_model.specs.declared.asks.Fault.TheVariants as fault
use Rattle.cta_model.specs.declared.asks.Item.{Item}
use Rattle.cta_model.specs.declared.asks.Job.{Job}
use Rattle.cta_model.specs.declared.hands.Hand.TheVariants as hand
use Rattle.drive_session.specs.declared.reports.Call.TheVariants as call
use Rattle.drive_session.specs.declared.reports.Done.TheVariants as done
use Rattle.drive_session.specs.declared.reports.ReadEnd.TheVariants as end
use Rattle.drive_session.specs.declared.reports.StepLine.TheVariants as line
use Rattle.drive_session.specs.declared.states.Asked.TheVariants as asked
use Rattle.drive_session.specs.declared.states.Mounted.{Mounted}
use Rattle.drive_session.specs.declared.states.Outcome.TheVariants as outcome
use Rattle.drive_session.specs.declared.states.State.TheVariants as state
use Rattle.drive_session.specs.Answers.{line_after, line_of, state_after}
use Rattle.drive_session.specs.Lawful.{Flushing, Follows, Free, Held, Leaving, Reading, Ready, Writing, standing_of}
use Rattle.drive_session.specs.Steps.{charges_in}
use Rattle.drive_session.specs.Table.{HeldMount, asks, row_of, says}
use Rattle.drive_session.specs.Table as phase

-- the jobs of two files
abbrev pub job_a : Job
job_a = record { birth = 1; file = 1; copy = 1 }

abbrev pub job_b : Job
job_b = record { birth = 2; file = 2; copy = 1 }

-- their items, at the fSeqs 1 and 2
abbrev pub two_items : Sum256 → Listed Item
two_items s = rows (record { job = job_a; fseq = 1; sum = s } ∷ record { job = job_b; fseq = 2; sum = s } ∷ [])

-- a writing and a reading mount of tape 0
abbrev pub writing_mount : {M : Type 0} → M → Mounted M
writing_mount m = record { mount = 2; direction = direction.Archive; tape = 0; medium = m }

abbrev pub reading_mount : {M : Type 0} → M → Mounted M
reading_mount m = record { mount = 3; direction = direction.Retrieve; tape = 0; medium = m }

-- Free
pub record FreeRows {M : Type 0} (m : M) : Type 0 where
  pub mount : line_after asked.Next state.Free (answer.Mounted 2 direction.Archive 0) (hand.Medium m) ≡ line.Mount direction.Archive 0
  pub held : state_after asked.Next state.Free (answer.Mounted 2 direction.Archive 0) (hand.Medium m) ≡ state.Held (writing_mount m)
  pub idle : line_after {M = M} asked.Next state.Free answer.Idle hand.Nothing ≡ line.Idle
  pub down : line_after {M = M} asked.Next state.Free answer.DriveDown hand.Nothing ≡ line.Down
  pub busy : line_after {M = M} asked.Next state.Free answer.DriveBusy hand.Nothing ≡ line.Busy
  pub full : line_after {M = M} asked.Next state.Free (answer.Refused refusal.HistoryFull) hand.Nothing ≡ line.Full
  pub free : state_after {M = M} asked.Next state.Free answer.Idle hand.Nothing ≡ state.Free

-- Held and Leaving
pub record CallRows : Type 0 where
  pub load_ok : Follows (Held direction.Archive) (line.Load true) (Ready direction.Archive)
  pub load_failed : Follows (Held direction.Archive) (line.Load false) Free
  pub unload_ok : Follows Leaving (line.Unload true) Free
  pub unload_failed : Follows Leaving (line.Unload false) Free

-- Ready
pub record ReadyRows {M : Type 0} (m : M) (s : Sum256) (blobs : Listed (Arc Blob Global)) : Type 0 where
  pub to_write : line_after asked.Claim (state.Ready (writing_mount m)) (answer.Batch (two_items s) (rows [])) (hand.Blobs blobs) ≡ line.Claim 2
  pub writing : state_after asked.Claim (state.Ready (writing_mount m)) (answer.Batch (two_items s) (rows [])) (hand.Blobs blobs) ≡ state.Claimed (writing_mount m) (two_items s) blobs
  pub to_read : line_after asked.Claim (state.Ready (reading_mount m)) (answer.Batch (two_items s) (rows [])) hand.Nothing ≡ line.Claim 2
  pub reading : state_after asked.Claim (state.Ready (reading_mount m)) (answer.Batch (two_items s) (rows [])) hand.Nothing ≡ state.Reading (reading_mount m) (two_items s) 0
  pub none : line_after asked.Claim (state.Ready (writing_mount m)) answer.Nothing hand.Nothing ≡ line.Claim 0
  pub full : line_after asked.Claim (state.Ready (writing_mount m)) (answer.Refused refusal.HistoryFull) hand.Nothing ≡ line.ClaimFull
  pub leaving : state_after asked.Claim (state.Ready (writing_mount m)) answer.Nothing hand.Nothing ≡ state.Leaving (writing_mount m)

-- Writing and Flushing
pub record WritingRows {M : Type 0} (m : M) (s : Sum256) (blobs : Listed (Arc Blob Global)) : Type 0 where
  pub claimed : standing_of (state.Claimed (writing_mount m) (two_items s) blobs) ≡ Writing (1 ∷ 2 ∷ [])
  pub write_ok : Follows (Writing (1 ∷ 2 ∷ [])) (line.Write 1 true) (Writing (2 ∷ []))
  pub write_failed : Follows (Writing (1 ∷ 2 ∷ [])) (line.Write 1 false) Leaving
  pub write_charges : charges_in (state.Claimed (writing_mount m) (two_items s) blobs) fault.Write ≡ Some (job_a ∷ [], job_b ∷ [])
  pub last_write : Follows (Writing (2 ∷ [])) (line.Write 2 true) Flushing
  pub flush_ok : line_after asked.Flushed (state.Ready (writing_mount m)) (answer.Told (rows (fate.Done ∷ fate.Stale ∷ []))) hand.Nothing ≡ line.Flush 1 1
  pub flushed : Follows Flushing (line.Flush 1 1) (Ready direction.Archive)
  pub flush_failed : Follows Flushing line.FlushFailed Leaving
  pub flush_charges : charges_in (state.Claimed (writing_mount m) (two_items s) blobs) fault.Flush ≡ Some (job_a ∷ job_b ∷ [], [])

-- Reading
pub record ReadingRows {M : Type 0} (m : M) (s found : Sum256) : Type 0 where
  pub claimed : standing_of (state.Reading (reading_mount m) (two_items s) 0) ≡ Reading (1 ∷ 2 ∷ [])
  pub done : line_after (asked.Recalled 1) (state.Reading (reading_mount m) (two_items s) 1) (answer.Arrived fate.Done) hand.Nothing ≡ line.Read 1 end.Done
  pub stale : line_after (asked.Recalled 1) (state.Reading (reading_mount m) (two_items s) 1) (answer.Arrived fate.Stale) hand.Nothing ≡ line.Read 1 end.Stale
  pub failed : line_of (outcome.Read 1) ≡ line.Read 1 end.Failed
  pub mismatch : line_of (outcome.Mismatch 1) ≡ line.Read 1 end.Mismatch
  pub charges : charges_in (state.Reading (reading_mount m) (two_items s) 0) (fault.Mismatch found s) ≡ Some (job_a ∷ [], [])
  pub goes_on : Follows (Reading (1 ∷ 2 ∷ [])) (line.Read 1 end.Failed) (Reading (2 ∷ []))
  pub last : Follows (Reading (2 ∷ [])) (line.Read 2 end.Done) (Ready direction.Retrieve)

-- the mounts without their media
abbrev pub writing_alone : HeldMount
writing_alone = record { mount = 2; direction = direction.Archive; tape = 0 }

abbrev pub reading_alone : HeldMount
reading_alone = record { mount = 3; direction = direction.Retrieve; tape = 0 }

-- the phases of a batch that is written and of one that is read, by how many items are done
abbrev pub writing_at : Sum256 → ℕ → phase.Phase
writing_at s n = phase.Writing writing_alone (two_items s).items n

abbrev pub reading_at : Sum256 → ℕ → phase.Phase
reading_at s n = phase.Reading reading_alone (two_items s).items n

-- what a step of drive 7 asks without a batch
pub record AskRows : Type 0 where
  pub next : row_of 7 phase.Free None ≡ asks (ask.Next 7) asked.Next phase.Free
  pub no_call : row_of 7 phase.Free (Some (done.Ok call.Load)) ≡ None
  pub load_ok : row_of 7 (phase.Held writing_alone) (Some (done.Ok call.Load)) ≡ says (line.Load true) (phase.Ready writing_alone)
  pub load_failed : row_of 7 (phase.Held writing_alone) (Some (done.Fault call.Load)) ≡ asks (ask.End 2 (Some fault.Load)) (asked.Known outcome.Load) phase.Free
  pub claim : row_of 7 (phase.Ready writing_alone) None ≡ asks (ask.Claim 2) asked.Claim (phase.Ready writing_alone)
  pub unload_ok : row_of 7 (phase.Leaving writing_alone) (Some (done.Ok call.Unload)) ≡ asks (ask.End 2 None) (asked.Known (outcome.Unload true)) phase.Free
  pub unload_failed : row_of 7 (phase.Leaving writing_alone) (Some (done.Fault call.Unload)) ≡ asks (ask.End 2 (Some fault.Unload)) (asked.Known (outcome.Unload false)) phase.Free

-- what a step asks of a batch that is written
pub record WriteRows (s : Sum256) : Type 0 where
  pub write_ok : row_of 7 (writing_at s 0) (Some (done.Ok (call.Write 1))) ≡ says (line.Write 1 true) (writing_at s 1)
  pub other_place : row_of 7 (writing_at s 0) (Some (done.Ok (call.Write 2))) ≡ None
  pub first_failed : row_of 7 (writing_at s 0) (Some (done.Fault (call.Write 1))) ≡ asks (ask.Failed 2 fault.Write (rows (job_a ∷ [])) (rows (job_b ∷ []))) (asked.Known (outcome.Write 1)) (phase.Leaving writing_alone)
  pub last_failed : row_of 7 (writing_at s 1) (Some (done.Fault (call.Write 2))) ≡ asks (ask.Failed 2 fault.Write (rows (job_b ∷ [])) (rows (job_a ∷ []))) (asked.Known (outcome.Write 2)) (phase.Leaving writing_alone)
  pub wants : row_of 7 (writing_at s 1) (Some (done.NoMemory (call.Write 2))) ≡ says line.Memory (writing_at s 1)
  pub flush_ok : row_of 7 (writing_at s 2) (Some (done.Ok call.Flush)) ≡ asks (ask.Flushed 2 (two_items s)) asked.Flushed (phase.Ready writing_alone)
  pub flush_failed : row_of 7 (writing_at s 2) (Some (done.Fault call.Flush)) ≡ asks (ask.Failed 2 fault.Flush (rows (job_a ∷ job_b ∷ [])) (rows [])) (asked.Known outcome.Flush) (phase.Leaving writing_alone)

-- what a step asks of a batch that is read
pub record ReadRows (s found : Sum256) : Type 0 where
  pub read_ok : row_of 7 (reading_at s 0) (Some (done.Ok (call.Read 1))) ≡ asks (ask.Recalled 3 job_a) (asked.Recalled 1) (reading_at s 1)
  pub read_failed : row_of 7 (reading_at s 0) (Some (done.Fault (call.Read 1))) ≡ asks (ask.Failed 3 fault.Read (rows (job_a ∷ [])) (rows [])) (asked.Known (outcome.Read 1)) (reading_at s 1)
  pub mismatch : row_of 7 (reading_at s 1) (Some (done.Mismatch found s)) ≡ asks (ask.Failed 3 (fault.Mismatch found s) (rows (job_b ∷ [])) (rows [])) (asked.Known (outcome.Mismatch 2)) (reading_at s 2)
  pub wants : row_of 7 (reading_at s 1) None ≡ says line.Memory (reading_at s 1)
  pub all_read : row_of 7 (reading_at s 2) None ≡ asks (ask.Claim 3) asked.Claim (phase.Ready reading_alone)

-- all rows
pub record TableRows {M : Type 0} (m : M) (s found : Sum256) (blobs : Listed (Arc Blob Global)) : Type 0 where
  pub free : FreeRows m
  pub calls : CallRows
  pub ready : ReadyRows m s blobs
  pub writing : WritingRows m s blobs
  pub reading : ReadingRows m s found
  pub call_asks : AskRows
  pub write_asks : WriteRows s
  pub read_asks : ReadRows s found
