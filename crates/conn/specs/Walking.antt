-- What is found of a body and of a message by walking over the bytes.
use Rattle.std.specs.Prelude.{◌≡◌, ℕ, ◌≤◌, List, ◌++◌, length, drop}
use Rattle.httparse.specs.Grammar.{RequestHead}
use Rattle.conn.specs.Message.{Body, body_text, IsBody, Message, message_text}
use Rattle.conn.specs.Cut.{BodyPart, part_text, IsPart, IsOpenPart, Tail, tail_text, IsTail, IsKept}
use Rattle.conn.specs.Reading.{Fails}
use Rattle.conn.specs.declared.walk.BodyEnd.{BodyEnd}
use Rattle.conn.specs.declared.walk.BodyEnd.TheVariants as end

-- the body is whole with so many bytes
pub record WholeBody (limit : ℕ) (h : RequestHead) (p : BodyPart) (rest : List ℕ) (used : ℕ) : Type 0 where
  pub body : Body
  pub is_body : IsBody limit h body
  pub text : part_text p ++ rest ≡ body_text body ++ drop used rest

-- the body is unfinished
pub record OpenEnd (limit : ℕ) (h : RequestHead) (p : BodyPart) (rest : List ℕ) : Type 0 where
  pub now : BodyPart
  pub after : List ℕ
  pub part : IsPart limit h now
  pub text : part_text p ++ rest ≡ part_text now ++ after
  pub open_part : IsOpenPart h now after

-- what a body comes to
abbrev pub EndsBody : ℕ → RequestHead → BodyPart → List ℕ → BodyEnd → Type 0
EndsBody limit h p rest (end.Whole used) = WholeBody limit h p rest used
EndsBody limit h p rest end.Open = OpenEnd limit h p rest
EndsBody limit h p rest (end.Refused refusal) = Fails limit h p rest refusal

-- no more bytes than there are
abbrev pub EndWithin : List ℕ → BodyEnd → Type 0
EndWithin rest (end.Whole used) = used ≤ length rest
EndWithin rest end.Open = Unit {0}
EndWithin rest (end.Refused refusal) = Unit {0}

-- the bytes are a tail
abbrev pub EndsThere : ℕ → List ℕ → Type 0
EndsThere limit rest = (t : Tail) × (IsTail limit t × (rest ≡ tail_text t))

-- the first bytes are a message after which the connection goes on
abbrev pub BeginsMessage : ℕ → List ℕ → ℕ → Type 0
BeginsMessage limit rest used = (m : Message) × (IsKept limit m × (rest ≡ message_text m ++ drop used rest))
