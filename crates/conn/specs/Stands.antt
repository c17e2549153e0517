-- What a connection stands for: the bytes that it was fed, and what it has given out.
use Rattle.std.specs.Prelude.{◌≡◌, ℕ, ◌+◌, ◌*◌, ◌<◌, ◌≤◌, true, false, List, [], ◌∷◌, ◌++◌, length, drop, Result, Ok, Err, flat_map}
use Rattle.std.specs.List.{AllByRecursion}
use Rattle.httparse.specs.Grammar.{RequestHead, print_request}
use Rattle.conn.specs.Message.{most_unfinished, Message, messages_text}
use Rattle.conn.specs.Cut.{BodyPart, part_text, Event, Continues, Requests, Refuses, told, messages_events, IsKept, Cut, IsLinkCut, IsOpen, cut_events}
use Rattle.conn.specs.Reading.{IsInBody}
use Rattle.conn.specs.Held.{HasSpace, HoldsWith, IsOver, held, memory, unread}
use Rattle.conn.specs.declared.state.Collected.{Collected}
use Rattle.conn.specs.declared.state.State.{State}
use Rattle.conn.specs.declared.state.State.TheVariants as state
use Rattle.conn.specs.declared.connection.Conn.{Conn}
use Rattle.conn.specs.declared.next.Next.{Next}
use Rattle.conn.specs.declared.next.Next.TheVariants as next
use Rattle.conn.specs.declared.state.Advance.{Advance}
use Rattle.conn.specs.declared.state.Advance.TheVariants as advance
use Rattle.wire_http.specs.declared.request.Request.{Request}
use Rattle.conn.specs.declared.state.BodyStep.{BodyStep}
use Rattle.conn.specs.declared.state.BodyStep.TheVariants as step

-- whole messages, and the rest of which nothing was read
pub record Between (limit : ℕ) (rest fed : List ℕ) (given : List Event) : Type 0 where
  pub whole : List Message
  pub each : AllByRecursion (IsKept limit) whole
  pub text : fed ≡ messages_text whole ++ rest
  pub events : given ≡ messages_events whole

-- whole messages, a head, part of its body, and the rest
pub record Within (limit : ℕ) (b : Collected) (rest fed : List ℕ) (given : List Event) : Type 0 where
  pub whole : List Message
  pub each : AllByRecursion (IsKept limit) whole
  pub head : RequestHead
  pub part : BodyPart
  pub in_body : IsInBody limit head part b
  pub text : fed ≡ messages_text whole ++ (print_request head ++ (part_text part ++ rest))
  pub events : given ≡ messages_events whole ++ told head

-- a cut after which nothing is read
pub record Ended (limit : ℕ) (fed : List ℕ) (given : List Event) : Type 0 where
  pub cut : Cut
  pub link : IsLinkCut limit fed cut
  pub final : ¬ (IsOpen cut.tail)
  pub events : given ≡ cut_events cut

-- of all that was fed, the rest wasn't read yet, and those events were given
abbrev pub StandsAt : ℕ → State → List ℕ → List ℕ → List Event → Type 0
StandsAt limit state.AtHead rest fed given = Between limit rest fed given
StandsAt limit (state.InBody b) rest fed given = Within limit b rest fed given
StandsAt limit state.Over rest fed given = Ended limit fed given
StandsAt limit state.Shut rest fed given = ⊥

-- the cut is unfinished, and all that it gives was given
pub record Unfinished (limit : ℕ) (fed : List ℕ) (given : List Event) : Type 0 where
  pub cut : Cut
  pub link : IsLinkCut limit fed cut
  pub is_open : IsOpen cut.tail
  pub events : given ≡ cut_events cut

-- the request of a body, once it is whole
abbrev pub collected_request : Collected → Request
collected_request b = record { method = b.head.method; target = b.head.target; who = b.head.who; body = b.maker; close = b.head.close }

-- it was closed from here, and stands for no bytes any more
abbrev pub IsShut : Conn → Type 0
IsShut c = c.state ≡ state.Shut

-- the limit of a file, in bytes
abbrev pub limit_of : Conn → ℕ
limit_of c = c.limit

-- so many bytes more can be kept without memory
abbrev pub HasRoom : Conn → ℕ → Type 0
HasRoom c more = HasSpace c.buffer more

-- what was given stands at the end of what had been given
abbrev pub Gives : ℕ → Next → State → List ℕ → List ℕ → List Event → Type 0
Gives limit next.Need s rest fed given = StandsAt limit s rest fed given × Unfinished limit fed given
Gives limit next.Continue s rest fed given = StandsAt limit s rest fed (given ++ Continues ∷ [])
Gives limit (next.Request r) s rest fed given = StandsAt limit s rest fed (given ++ Requests r ∷ [])
Gives limit (next.Refused r) s rest fed given = StandsAt limit s rest fed (given ++ Refuses r ∷ [])
Gives limit next.Closed s rest fed given = StandsAt limit s rest fed given × IsOver s

-- one step: so many bytes were read
abbrev pub Advances : {E : Type 0} → ℕ → List ℕ → State → Result Advance E → List ℕ → List Event → Type 0
Advances limit rest s (Ok (advance.Moved used)) fed given = (used ≤ length rest) × (0 < used) × StandsAt limit s (drop used rest) fed given
Advances limit rest s (Ok (advance.Gives used n)) fed given = (used ≤ length rest) × Gives limit n s (drop used rest) fed given
Advances limit rest s (Err e) fed given = StandsAt limit s rest fed given

-- the bytes that weren't read yet
abbrev pub rest_of : Conn → List ℕ
rest_of c = unread c.buffer

-- how many bytes a connection holds: those that weren't read, and some that were
abbrev pub buffered : Conn → ℕ
buffered c = held c.buffer

-- for how many bytes it holds memory
abbrev pub capacity : Conn → ℕ
capacity c = memory c.buffer

-- what it holds with an answer: with Need the unfinished bytes alone, at most 16,384; with a closing request, a refusal and Closed no byte, and no memory for one
abbrev pub Holds : Next → Conn → Type 0
Holds n c = HoldsWith n c.buffer

-- of all bytes that it was fed, those events are what a connection gave
abbrev pub Stands : Conn → List ℕ → List Event → Type 0
Stands c fed given = StandsAt c.limit c.state (rest_of c) fed given

-- what an answer says of the events; after want of memory they are as before
abbrev pub GivesNext : {E : Type 0} → Conn → Result Next E → List ℕ → List Event → Type 0
GivesNext c (Ok n) fed given = Gives c.limit n c.state (rest_of c) fed given
GivesNext c (Err e) fed given = Stands c fed given

-- the body was whole with so many bytes and is a request, or it is kept for want of memory
abbrev pub IsFinished : ℕ → Collected → BodyStep → Type 0
IsFinished used b (step.Moved n c) = ⊥
IsFinished used b (step.Need c) = ⊥
IsFinished used b (step.Whole n r) = (n ≡ used) × (r ≡ collected_request b)
IsFinished used b (step.Refused refusal) = ⊥
IsFinished used b (step.NoMemory c) = c ≡ b

-- one step through a body
abbrev pub BodySteps : ℕ → List ℕ → BodyStep → List ℕ → List Event → Type 0
BodySteps limit rest (step.Moved used b) fed given = (used ≤ length rest) × (0 < used) × Within limit b (drop used rest) fed given
BodySteps limit rest (step.Need b) fed given = Within limit b rest fed given × Unfinished limit fed given
BodySteps limit rest (step.Whole used r) fed given =
    (used ≤ length rest) × (r.close ≡ false → Between limit (drop used rest) fed (given ++ Requests r ∷ []))
    × (r.close ≡ true → Ended limit fed (given ++ Requests r ∷ []))
BodySteps limit rest (step.Refused refusal) fed given = Ended limit fed (given ++ Refuses refusal ∷ [])
BodySteps limit rest (step.NoMemory b) fed given = Within limit b rest fed given

-- a step through a body reads no more than there is, and waits only on few bytes
abbrev pub BodyStepWithin : List ℕ → BodyStep → Type 0
BodyStepWithin rest (step.Moved used b) = (used ≤ length rest) × (0 < used)
BodyStepWithin rest (step.Need b) = length rest ≤ most_unfinished
BodyStepWithin rest (step.Whole used r) = used ≤ length rest
BodyStepWithin rest (step.Refused refusal) = Unit {0}
BodyStepWithin rest (step.NoMemory b) = Unit {0}

-- a step reads no more than there is
abbrev pub AdvanceWithin : List ℕ → Advance → Type 0
AdvanceWithin rest (advance.Moved used) = (used ≤ length rest) × (0 < used)
AdvanceWithin rest (advance.Gives used n) = used ≤ length rest

-- what is left to do on a connection: it falls with each answer that isn't Need or Closed
abbrev pub weight : State → ℕ
weight state.AtHead = 1
weight (state.InBody b) = 2
weight state.Over = 0
weight state.Shut = 0

-- the same, of a rest and a state
abbrev pub left_at : List ℕ → State → ℕ
left_at rest s = 3 * length rest + weight s

-- the same, of a connection
abbrev pub left : Conn → ℕ
left c = left_at (rest_of c) c.state

-- P, where it isn't the answer after which one waits
abbrev pub UnlessLast : Next → Type 0 → Type 0
UnlessLast next.Need P = Unit {0}
UnlessLast next.Continue P = P
UnlessLast (next.Request r) P = P
UnlessLast (next.Refused r) P = P
UnlessLast next.Closed P = Unit {0}

-- a step leaves less to do, unless it waits
abbrev pub AdvanceLess : List ℕ → State → State → Advance → Type 0
AdvanceLess rest s s' (advance.Moved used) = left_at (drop used rest) s' < left_at rest s
AdvanceLess rest s s' (advance.Gives used n) = UnlessLast n (left_at (drop used rest) s' < left_at rest s)

-- the events that an answer is
abbrev pub next_events : Next → List Event
next_events next.Need = []
next_events next.Continue = Continues ∷ []
next_events (next.Request r) = Requests r ∷ []
next_events (next.Refused r) = Refuses r ∷ []
next_events next.Closed = []

-- the events that answers are
abbrev pub given_by : List Next → List Event
given_by ns = flat_map next_events ns

-- a cut of these bytes of which all was given
pub record Settled (limit : ℕ) (fed : List ℕ) (given : List Event) : Type 0 where
  pub cut : Cut
  pub link : IsLinkCut limit fed cut
  pub events : given ≡ cut_events cut

-- with further events behind those that were given, all was given of a cut of these bytes
abbrev pub HasCompletion : ℕ → List ℕ → List Event → Type 0
HasCompletion limit fed given = (more : List Event) × Settled limit fed (given ++ more)
