-- How a `step` record is carried out, and how a script ends in one.
use Rattle.std.specs.Prelude.{◌≡◌, ℕ, ◌⊎◌, List, Option, None, Some, Result, MatchResult}
use Rattle.std.specs.Io.KnownBytes.{Appends}
use Rattle.outside.specs.Causes.{Rose}
use Rattle.outside.specs.Streams.{AppendsFront}
use Rattle.blob.specs.Records.{MediumView}
use Rattle.media.specs.Drives.{DriveView}
use Rattle.drive_session.specs.declared.reports.Done.{Done}
use Rattle.archive_opening.specs.declared.status.Status.{Status}
use Rattle.archive_opening.specs.declared.status.Status.TheVariants.{NoMemory, WriteFault}
use Rattle.replay.specs.Output.{run_behind, written_for}
use Rattle.replay.specs.Promises.{IsSoundStep}
use Rattle.replay.specs.Run.{Stepped}
use Rattle.replay.specs.Seen.{SinkView}
use Rattle.replay.specs.Steps.{IsStepOf, RunState}
use Rattle.replay.specs.declared.output.Unwritten.{Unwritten}
use Rattle.replay.specs.declared.output.Unwritten.TheVariants.{Broken, Wanting}

-- why a line was not written, and what was: the sink has failed and took a front of it; or memory was wanted, and it took nothing
abbrev pub NotPut : Unwritten → SinkView → SinkView → List ℕ → Type 0
NotPut Broken a b line = AppendsFront a.written b.written line × Rose a.faults b.faults
NotPut Wanting a b line = b ≡ a

-- a line was written, or not and why
abbrev pub IsPut : {T : Type 0} → Result T Unwritten → SinkView → SinkView → List ℕ → Type 0
IsPut r a b line = MatchResult r (λ _. Appends a.written b.written line) (λ why. NotPut why a b line)

-- a step was carried out, and its line was written
pub record IsWrittenStep (old new : RunState) (drive moment : ℕ) (a b : SinkView) : Type 0 where
  pub done : Option Done
  pub seen : DriveView
  pub left : Option MediumView
  pub is : IsStepOf old drive moment done seen left
  pub sound : IsSoundStep old drive moment done seen left
  pub keeps : new ≡ run_behind old (Stepped drive moment done seen left)
  pub wrote : Appends a.written b.written (written_for old (Stepped drive moment done seen left))

-- a step was carried out, and its line was not written
pub record IsUnwrittenStep (why : Unwritten) (old : RunState) (drive moment : ℕ) (a b : SinkView) : Type 0 where
  pub done : Option Done
  pub seen : DriveView
  pub left : Option MediumView
  pub is : IsStepOf old drive moment done seen left
  pub sound : IsSoundStep old drive moment done seen left
  pub not_put : NotPut why a b (written_for old (Stepped drive moment done seen left))

-- how a script ends in a step: memory was wanted for it; or its line was not written
abbrev pub EndsInStep : Status → RunState → ℕ → ℕ → SinkView → SinkView → Type 0
EndsInStep status old drive moment a b =
    ((status ≡ NoMemory) × (b ≡ a))
    ⊎ (((status ≡ WriteFault) × IsUnwrittenStep Broken old drive moment a b)
    ⊎ ((status ≡ NoMemory) × IsUnwrittenStep Wanting old drive moment a b))

-- a step was carried out and its line written, or the script ended in it
abbrev pub HasStepped : Option Status → RunState → RunState → ℕ → ℕ → SinkView → SinkView → Type 0
HasStepped None old new drive moment a b = IsWrittenStep old new drive moment a b
HasStepped (Some status) old new drive moment a b = EndsInStep status old drive moment a b
