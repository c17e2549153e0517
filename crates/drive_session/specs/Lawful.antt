-- Which lines of a drive follow one another.
use Rattle.std.specs.Prelude.{ℕ, ◌≡◌, ⊤, length, List, [], ◌∷◌, ◌++◌, map, drop, Option, Some, None, Bool, true, false}
use Rattle.blob.specs.declared.sum.Sum256.{Sum256}
use Rattle.cta_model.specs.declared.asks.Direction.{Direction}
use Rattle.cta_model.specs.declared.asks.Direction.TheVariants as direction
use Rattle.cta_model.specs.declared.asks.Item.{Item}
use Rattle.drive_session.specs.declared.reports.Call.TheVariants as call
use Rattle.drive_session.specs.declared.reports.Done.{Done}
use Rattle.drive_session.specs.declared.reports.Done.TheVariants as done
use Rattle.drive_session.specs.declared.reports.ReadEnd.{ReadEnd}
use Rattle.drive_session.specs.declared.reports.ReadEnd.TheVariants as end
use Rattle.drive_session.specs.declared.reports.StepLine.{StepLine}
use Rattle.drive_session.specs.declared.reports.StepLine.TheVariants as line
use Rattle.drive_session.specs.declared.states.State.{State}
use Rattle.drive_session.specs.declared.states.State.TheVariants as state
use Rattle.drive_session.specs.Answers.{counted}

-- where a drive's lines stand: the state of the session, with the direction of a mount without a batch, and of a batch the fSeqs of its items that are left
pub data Standing : Type 0 where
  Free : Standing
  Held : Direction → Standing
  Ready : Direction → Standing
  Writing : List ℕ → Standing
  Flushing : Standing
  Reading : List ℕ → Standing
  Leaving : Standing

-- a batch that is written: it is flushed once none of these fSeqs is left
abbrev pub writing_of : List ℕ → Standing
writing_of [] = Flushing
writing_of (s ∷ ss) = Writing (s ∷ ss)

-- a batch that is read: the mount is ready once none of these fSeqs is left
abbrev pub reading_of : List ℕ → Standing
reading_of [] = Ready direction.Retrieve
reading_of (s ∷ ss) = Reading (s ∷ ss)

-- where a batch of these fSeqs leads
abbrev pub claimed_by : Direction → List ℕ → Standing
claimed_by direction.Archive ss = writing_of ss
claimed_by direction.Retrieve ss = reading_of ss

-- a line in a state, and the state behind it; a Claim tells the number of its items, and the line of a write or a read names the next one
pub data Follows : Standing → StepLine → Standing → Type 0 where
  Again : (s : Standing) → Follows s line.Memory s
  Mounts : (way : Direction) (v : ℕ) → Follows Free (line.Mount way v) (Held way)
  Idles : Follows Free line.Idle Free
  IsDown : Follows Free line.Down Free
  IsBusy : Follows Free line.Busy Free
  IsFull : Follows Free line.Full Free
  Loads : (way : Direction) → Follows (Held way) (line.Load true) (Ready way)
  FailsLoad : (way : Direction) → Follows (Held way) (line.Load false) Free
  Claims : (way : Direction) (s : ℕ) (ss : List ℕ) (n : ℕ) → n ≡ counted (length (s ∷ ss)) → Follows (Ready way) (line.Claim n) (claimed_by way (s ∷ ss))
  ClaimsNone : (way : Direction) → Follows (Ready way) (line.Claim 0) Leaving
  ClaimsFull : (way : Direction) → Follows (Ready way) line.ClaimFull Leaving
  Writes : (s : ℕ) (ss : List ℕ) → Follows (Writing (s ∷ ss)) (line.Write s true) (writing_of ss)
  FailsWrite : (s : ℕ) (ss : List ℕ) → Follows (Writing (s ∷ ss)) (line.Write s false) Leaving
  Flushes : (n m : ℕ) → Follows Flushing (line.Flush n m) (Ready direction.Archive)
  FailsFlush : Follows Flushing line.FlushFailed Leaving
  Reads : (s : ℕ) (ss : List ℕ) (how : ReadEnd) → Follows (Reading (s ∷ ss)) (line.Read s how) (reading_of ss)
  Unloads : (ok : Bool) → Follows Leaving (line.Unload ok) Free

-- lines that lead from a state to another: each follows the one before it
pub data LeadTo : Standing → List StepLine → Standing → Type 0 where
  End : (s : Standing) → LeadTo s [] s
  More : (s t u : Standing) (l : StepLine) (ls : List StepLine) → Follows s l t → LeadTo t ls u → LeadTo s (l ∷ ls) u

-- the lines of one drive are lawful where they lead somewhere from Free
abbrev pub AreLawful : List StepLine → Type 0
AreLawful ls = (s : Standing) × LeadTo Free ls s

-- lawful lines stay so with one more that follows where they lead
abbrev pub LinesStayLawful : Type 0
LinesStayLawful = (ls : List StepLine) (l : StepLine) (s t : Standing) → LeadTo Free ls s → Follows s l t → LeadTo Free (ls ++ l ∷ []) t

-- the fSeqs of items
abbrev pub fseqs : List Item → List ℕ
fseqs items = map (λ (i : Item). i.fseq) items

-- where the lines of a session stand in a state
abbrev pub standing_of : {M : Type 0} → State M → Standing
standing_of state.Free = Free
standing_of (state.Held x) = Held x.direction
standing_of (state.Ready x) = Ready x.direction
standing_of (state.Claimed x items blobs) = writing_of (fseqs items.items)
standing_of (state.Writing x b) = writing_of (fseqs (drop b.at b.items.items))
standing_of (state.Reading x items at) = reading_of (fseqs (drop at items.items))
standing_of (state.Leaving x) = Leaving

-- a line says what the device answered, and any other line is that of a step without a call; Memory says nothing of the device
abbrev pub IsSaid : StepLine → Option Done → Type 0
IsSaid (line.Load true) e = e ≡ Some (done.Ok call.Load)
IsSaid (line.Load false) e = e ≡ Some (done.Fault call.Load)
IsSaid (line.Write s true) e = e ≡ Some (done.Ok (call.Write s))
IsSaid (line.Write s false) e = e ≡ Some (done.Fault (call.Write s))
IsSaid (line.Flush n m) e = e ≡ Some (done.Ok call.Flush)
IsSaid line.FlushFailed e = e ≡ Some (done.Fault call.Flush)
IsSaid (line.Read s end.Done) e = e ≡ Some (done.Ok (call.Read s))
IsSaid (line.Read s end.Stale) e = e ≡ Some (done.Ok (call.Read s))
IsSaid (line.Read s end.Failed) e = e ≡ Some (done.Fault (call.Read s))
IsSaid (line.Read s end.Mismatch) e = (found : Sum256) × ((wanted : Sum256) × (e ≡ Some (done.Mismatch found wanted)))
IsSaid (line.Unload true) e = e ≡ Some (done.Ok call.Unload)
IsSaid (line.Unload false) e = e ≡ Some (done.Fault call.Unload)
IsSaid line.Memory e = ⊤
IsSaid _ e = e ≡ None
