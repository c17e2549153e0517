-- A body that is being read, and one step of reading it.
use Rattle.std.specs.Prelude.{◌≡◌, ℕ, ◌+◌, ◌<◌, ◌≤◌, ◌⊎◌, List, [], ◌∷◌, ◌++◌, length, take, drop}
use Rattle.httparse.specs.Grammar.{RequestHead, chunk_size}
use Rattle.wire_http.specs.Head.{framing, most_body, IsHeadOf}
use Rattle.conn.specs.Message.{most_unfinished, Body, body_text, body_bytes, content, IsHead, IsBody}
use Rattle.conn.specs.Cut.{BodyPart, InPlain, AtLine, InData, AtTrailer, part_text, part_bytes, IsPart, IsOpenPart, IsBadPart, IsBadEnd}
use Rattle.wire_http.specs.declared.head.BodyLen.{BodyLen}
use Rattle.wire_http.specs.declared.head.BodyLen.TheVariants.{Sized, Chunked}
use Rattle.wire_http.specs.declared.refusal.WireRefusal.{WireRefusal}
use Rattle.conn.specs.declared.body_state.Phase.{Phase}
use Rattle.conn.specs.declared.body_state.Phase.TheVariants as phase
use Rattle.conn.specs.declared.body_state.BodyState.{BodyState}
use Rattle.conn.specs.declared.state.Collected.{Collected}
use Rattle.conn.specs.declared.body_state.CrLf.{CrLf}
use Rattle.conn.specs.declared.body_state.CrLf.TheVariants as end
use Rattle.conn.specs.declared.body_state.Step.{Step}
use Rattle.conn.specs.declared.body_state.Step.TheVariants as step

-- where the code is in that part
abbrev pub IsPhase : RequestHead → BodyPart → Phase → Type 0
IsPhase h (InPlain bytes) (phase.Sized left) = framing h ≡ Sized (length bytes + left)
IsPhase h (InPlain bytes) phase.Line = ⊥
IsPhase h (InPlain bytes) (phase.Data left) = ⊥
IsPhase h (InPlain bytes) phase.Trailer = ⊥
IsPhase h (AtLine chunks) (phase.Sized left) = ⊥
IsPhase h (AtLine chunks) phase.Line = Unit {0}
IsPhase h (AtLine chunks) (phase.Data left) = ⊥
IsPhase h (AtLine chunks) phase.Trailer = ⊥
IsPhase h (InData chunks line bytes) (phase.Sized left) = ⊥
IsPhase h (InData chunks line bytes) phase.Line = ⊥
IsPhase h (InData chunks line bytes) (phase.Data left) = length bytes + left ≡ chunk_size line
IsPhase h (InData chunks line bytes) phase.Trailer = ⊥
IsPhase h (AtTrailer chunks last) (phase.Sized left) = ⊥
IsPhase h (AtTrailer chunks last) phase.Line = ⊥
IsPhase h (AtTrailer chunks last) (phase.Data left) = ⊥
IsPhase h (AtTrailer chunks last) phase.Trailer = Unit {0}

-- what the chunks may still announce, behind those that were announced
abbrev pub IsRoom : ℕ → RequestHead → BodyPart → ℕ → Type 0
IsRoom limit h (InPlain bytes) room = Unit {0}
IsRoom limit h (AtLine chunks) room = length (content chunks) + room ≡ most_body limit h
IsRoom limit h (InData chunks line bytes) room = length (content chunks) + chunk_size line + room ≡ most_body limit h
IsRoom limit h (AtTrailer chunks last) room = Unit {0}

-- the code is at that part of a body behind that head
pub record IsAt (limit : ℕ) (h : RequestHead) (p : BodyPart) (q : BodyState) : Type 0 where
  pub part : IsPart limit h p
  pub room : IsRoom limit h p q.room
  pub at : IsPhase h p q.phase

-- where a body begins that is framed so
abbrev pub start_of : ℕ → BodyLen → BodyState
start_of most (Sized n) = record { room = most; phase = phase.Sized n }
start_of most Chunked = record { room = most; phase = phase.Line }

-- the code's body is that part of a body of that head
pub record IsInBody (limit : ℕ) (h : RequestHead) (p : BodyPart) (b : Collected) : Type 0 where
  pub head : IsHead limit h
  pub parts : IsHeadOf h b.head
  pub bytes : b.maker ≡ part_bytes p
  pub place : IsAt limit h p b.place

-- so many bytes were read, of which those belong to the content
pub record Reached (limit : ℕ) (h : RequestHead) (p : BodyPart) (rest : List ℕ) (used : ℕ) (taken : List ℕ) (q : BodyState) : Type 0 where
  pub now : BodyPart
  pub place : IsAt limit h now q
  pub bytes : part_bytes now ≡ part_bytes p ++ taken
  pub within : used ≤ length rest
  pub text : part_text p ++ rest ≡ part_text now ++ drop used rest

-- the body is whole
pub record Ends (limit : ℕ) (h : RequestHead) (p : BodyPart) (rest : List ℕ) (used : ℕ) : Type 0 where
  pub body : Body
  pub is_body : IsBody limit h body
  pub bytes : part_bytes p ≡ body_bytes body
  pub within : used ≤ length rest
  pub text : part_text p ++ rest ≡ body_text body ++ drop used rest

-- no body goes on so
pub record Fails (limit : ℕ) (h : RequestHead) (p : BodyPart) (rest : List ℕ) (refusal : WireRefusal) : Type 0 where
  pub now : BodyPart
  pub after : List ℕ
  pub part : IsPart limit h now
  pub text : part_text p ++ rest ≡ part_text now ++ after
  pub bad : IsBadPart limit h now after refusal

-- what a step says of the body
abbrev pub StepsTo : ℕ → RequestHead → BodyPart → List ℕ → BodyState → Step → Type 0
StepsTo limit h p rest q (step.Moved used) = Reached limit h p rest used [] q
StepsTo limit h p rest q (step.Taken used) = Reached limit h p rest used (take used rest) q
StepsTo limit h p rest q step.Need = IsOpenPart h p rest
StepsTo limit h p rest q (step.Whole used) = Ends limit h p rest used
StepsTo limit h p rest q (step.Refused refusal) = Fails limit h p rest refusal

-- a CR LF stands there, part of one, or none
abbrev pub IsCrLf : List ℕ → CrLf → Type 0
IsCrLf rest end.Whole = rest ≡ 13 ∷ 10 ∷ drop 2 rest
IsCrLf rest end.Part = (rest ≡ []) ⊎ (rest ≡ 13 ∷ [])
IsCrLf rest end.Wrong = IsBadEnd rest

-- a step reads no more than there is, and waits only on few bytes
abbrev pub StepWithin : List ℕ → Step → Type 0
StepWithin rest (step.Moved used) = (used ≤ length rest) × (0 < used)
StepWithin rest (step.Taken used) = (used ≤ length rest) × (0 < used)
StepWithin rest step.Need = length rest ≤ most_unfinished
StepWithin rest (step.Whole used) = used ≤ length rest
StepWithin rest (step.Refused refusal) = Unit {0}
