-- How many bytes of an unfinished request a connection holds.
use Rattle.std.specs.Prelude.{◌≡◌, ℕ, ◌+◌, ◌≤◌, ⊤, max, List, length, drop}
use Rattle.httparse.specs.Grammar.{RequestHead}
use Rattle.wire_http.specs.Head.{IsOpenHead}
use Rattle.conn.specs.Cut.{BodyPart, part_bytes, IsOpenPart, Tail, OpenHead, OpenBody, NoHead, Breaks, NoBody, Closing, Event, IsOpen, Cut, IsLinkCut, cut_events}
use Rattle.conn.specs.Reading.{IsInBody}
use Rattle.conn.specs.Stands.{rest_of, limit_of}
use Rattle.conn.specs.declared.state.State.{State}
use Rattle.conn.specs.declared.state.State.TheVariants as state
use Rattle.conn.specs.declared.state.Advance.{Advance}
use Rattle.conn.specs.declared.state.Advance.TheVariants as advance
use Rattle.conn.specs.declared.state.BodyStep.{BodyStep}
use Rattle.conn.specs.declared.state.BodyStep.TheVariants as step
use Rattle.conn.specs.declared.connection.Conn.{Conn}
use Rattle.conn.specs.declared.next.Next.{Next}
use Rattle.conn.specs.declared.next.Next.TheVariants as next

-- how many bytes of an unfinished request stand in a tail: all those of a head that isn't whole; behind the head, those of the body, and what
-- has come of a chunk line, of a chunk's end or of a trailer
abbrev pub tail_held : Tail → ℕ
tail_held (OpenHead part) = length part
tail_held (OpenBody head part rest) = length (part_bytes part) + length rest
tail_held (NoHead rest) = 0
tail_held (Breaks head rest refusal) = 0
tail_held (NoBody head part rest refusal) = 0
tail_held (Closing message rest) = 0

-- the most of them: the longest body and 32,768 more
abbrev pub most_held : ℕ → ℕ
most_held limit = max limit 4194304 + 32768

-- how many bytes that were not given yet are held, in a state and with a rest that wasn't read
abbrev pub held_at : State → List ℕ → ℕ
held_at state.AtHead rest = length rest
held_at (state.InBody b) rest = length b.maker + length rest
held_at state.Over rest = 0
held_at state.Shut rest = 0

-- the same, of a connection
abbrev pub held_by : Conn → ℕ
held_by c = held_at c.state (rest_of c)

-- a cut of the bytes is unfinished, all that it gives was given, and of its tail so many bytes are held
pub record Waits (limit : ℕ) (fed : List ℕ) (given : List Event) (count : ℕ) : Type 0 where
  pub cut : Cut
  pub link : IsLinkCut limit fed cut
  pub is_open : IsOpen cut.tail
  pub events : given ≡ cut_events cut
  pub held : count ≡ tail_held cut.tail
  pub few : count ≤ most_held limit

-- with Need the connection waits
abbrev pub WaitsWith : Next → Conn → List ℕ → List Event → Type 0
WaitsWith next.Need c fed given = Waits (limit_of c) fed given (held_by c)
WaitsWith next.Continue c fed given = ⊤
WaitsWith (next.Request r) c fed given = ⊤
WaitsWith (next.Refused r) c fed given = ⊤
WaitsWith next.Closed c fed given = ⊤

-- nothing more can be read: the rest is part of a head, or of what comes next in the body
abbrev pub IsAtRest : ℕ → State → List ℕ → Type 0
IsAtRest limit state.AtHead rest = IsOpenHead rest
IsAtRest limit (state.InBody b) rest = (h : RequestHead) (p : BodyPart) → IsInBody limit h p b → IsOpenPart h p rest
IsAtRest limit state.Over rest = ⊥
IsAtRest limit state.Shut rest = ⊥

-- a step through a body that needs more leaves nothing that can be read
abbrev pub BodyRests : ℕ → List ℕ → BodyStep → Type 0
BodyRests limit rest (step.Moved used b) = ⊤
BodyRests limit rest (step.Need b) = IsAtRest limit (state.InBody b) rest
BodyRests limit rest (step.Whole used r) = ⊤
BodyRests limit rest (step.Refused refusal) = ⊤
BodyRests limit rest (step.NoMemory b) = ⊤

-- with Need nothing more can be read
abbrev pub RestsWith : Next → ℕ → State → List ℕ → Type 0
RestsWith next.Need limit s rest = IsAtRest limit s rest
RestsWith next.Continue limit s rest = ⊤
RestsWith (next.Request r) limit s rest = ⊤
RestsWith (next.Refused r) limit s rest = ⊤
RestsWith next.Closed limit s rest = ⊤

-- a step that answers Need leaves nothing that can be read
abbrev pub Rests : ℕ → List ℕ → State → Advance → Type 0
Rests limit rest s (advance.Moved used) = ⊤
Rests limit rest s (advance.Gives used n) = RestsWith n limit s (drop used rest)
