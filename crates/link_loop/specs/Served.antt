-- How a link was served.
use Rattle.std.specs.Prelude.{◌≡◌, ℕ, ◌≤◌, ◌<◌, ◌⊎◌, List, [], ◌∷◌, ◌++◌, map, flat_map, length, Bool, Option, Some, None, Result, Ok, Err}
use Rattle.std.specs.List.{AllByRecursion}
use Rattle.std.specs.Io.KnownBytes.{Consumes, IsAtEnd}
use mathlib.Core.List.{IsPrefix}
use Rattle.outside.specs.Causes.{Rose}
use Rattle.outside.specs.Streams.{IsFront, StillAppends, StillAppendsFront}
use Rattle.outside.specs.declared.link.LinkEnd.{LinkEnd}
use Rattle.outside.specs.declared.link.LinkEnd.TheVariants.{Ended, Closed, Spent}
use Rattle.conn.specs.Cut.{Cut, Event, Requests, IsLinkCut, cut_events}
use Rattle.conn.specs.Stands.{Stands, Unfinished, HasCompletion, limit_of}
use Rattle.conn.specs.Stands as stands
use Rattle.conn.specs.declared.connection.Conn.{Conn}
use Rattle.wire_http.specs.declared.request.Request.{Request}
use Rattle.wire_http.specs.Reply.{reply_text}
use Rattle.turn_hall.specs.declared.view.Made.{Made}
use Rattle.turn_hall.specs.declared.view.View.{View}
use Rattle.link_loop.specs.declared.front.Routed.{Routed}
use Rattle.link_loop.specs.declared.front.Routed.TheVariants as routed
use Rattle.link_loop.specs.declared.front.Said.{Said}
use Rattle.link_loop.specs.declared.front.Said.TheVariants as said
use Rattle.link_loop.specs.declared.sending.Unserved.{Unserved}
use Rattle.link_loop.specs.declared.sending.Unserved.TheVariants as unserved
use Rattle.link_loop.specs.declared.answering.Pause.{Pause}
use Rattle.link_loop.specs.declared.answering.Pause.TheVariants.{Waits, Over}
use Rattle.link_loop.specs.Exchanges.{Exchange, WasPlayed, Suits, GoesOn, StopsLast, calls_of, events_of, text_of, texts_of}

-- ---- a link, and the bytes that are taken of it

-- the most bytes that are taken of one link: 2^40
abbrev pub budget : ℕ
budget = 1099511627776

-- the most bytes that are taken of a link at once
abbrev pub piece : ℕ
piece = 65536

-- what a link tells: the bytes that it has left, those that were written, and how often each of its sides has failed
pub record LinkView : Type 0 where
  pub left : Option (List ℕ)
  pub written : Option (List ℕ)
  pub reads : ℕ
  pub writes : ℕ

-- what is told by these four
abbrev pub link_view : Option (List ℕ) → Option (List ℕ) → ℕ → ℕ → LinkView
link_view left written reads writes = record { left = left; written = written; reads = reads; writes = writes }

-- no piece was taken behind an end: the last one, of at most 65,536 bytes, was the first, or it came behind bytes that were unfinished
pub record TakesNoMore (limit : ℕ) (bytes : List ℕ) : Type 0 where
  pub before : List ℕ
  pub last : List ℕ
  pub parts : bytes ≡ before ++ last
  pub few : length last ≤ piece
  pub was_open : (before ≡ []) ⊎ ((events : List Event) × Unfinished limit before events)

-- ---- how one text was written

-- a text was written whole, or why not: the writing side has failed, and took a front of it; or memory ran out, and it took nothing
abbrev pub IsSent : {S : Type 0} → Result (Unit {0}) (Unserved S) → List ℕ → LinkView → LinkView → Type 0
IsSent (Ok x) text a b = StillAppends a.written b.written text
IsSent (Err unserved.Read) text a b = ⊥
IsSent (Err unserved.Write) text a b = Rose a.writes b.writes × StillAppendsFront a.written b.written text
IsSent (Err unserved.NoMemory) text a b = b.written ≡ a.written
IsSent (Err (unserved.Stopped why)) text a b = ⊥

-- what is said to what came back was written so, or the link isn't served on
abbrev pub IsSaid : {S : Type 0} → Said S → Result (Unit {0}) (Unserved S) → LinkView → LinkView → Type 0
IsSaid (said.Reply reply) r a b = IsSent r (reply_text reply) a b
IsSaid (said.Stop why) r a b = (r ≡ Err (unserved.Stopped why)) × (b.written ≡ a.written)

-- ---- ends

-- not an end for a fault of the link
abbrev pub IsFirmEnd : {T S : Type 0} → Result T (Unserved S) → Type 0
IsFirmEnd (Ok x) = Unit {0}
IsFirmEnd (Err unserved.Read) = ⊥
IsFirmEnd (Err unserved.Write) = ⊥
IsFirmEnd (Err unserved.NoMemory) = Unit {0}
IsFirmEnd (Err (unserved.Stopped why)) = Unit {0}

-- all that the bytes give was answered, and more bytes are needed; or nothing comes any more
abbrev pub PauseSays : Pause → ℕ → List ℕ → List Event → Type 0
PauseSays Waits limit bytes events = Unfinished limit bytes events
PauseSays Over limit bytes events = stands.Ended limit bytes events

-- why a link was not served to its end, if it wasn't
abbrev pub why_not : {T S : Type 0} → Result T (Unserved S) → Option (Unserved S)
why_not (Ok x) = None
why_not (Err why) = Some why

-- the link is served on in each exchange, but in the last one where that stopped it
abbrev pub GoesSo : {C B S : Type 0} → (B → Bool → Said S) → Option (Unserved S) → List (Exchange C B) → Type 0
GoesSo says None told = AllByRecursion (GoesOn says) told
GoesSo says (Some unserved.Read) told = AllByRecursion (GoesOn says) told
GoesSo says (Some unserved.Write) told = AllByRecursion (GoesOn says) told
GoesSo says (Some unserved.NoMemory) told = AllByRecursion (GoesOn says) told
GoesSo says (Some (unserved.Stopped why)) told = StopsLast says why told

module _ {C B K S : Type 0} (needs : Request → Routed K) (says : B → Bool → Said S) where
  -- the texts of the exchanges were written, and nothing else
  abbrev pub WroteAll : List (Exchange C B) → LinkView → LinkView → Type 0
  WroteAll told a b = StillAppends a.written b.written (texts_of needs says told)

  -- the texts of the first exchanges were written, and nothing else: those of all, or of all but the last one
  pub record WroteFirst (told : List (Exchange C B)) (a b : LinkView) : Type 0 where
    pub first : List (Exchange C B)
    pub later : List (Exchange C B)
    pub parts : told ≡ first ++ later
    pub few : length later ≤ 1
    pub wrote : StillAppends a.written b.written (texts_of needs says first)

  -- the texts of all exchanges but the last one were written, then a front of its text, and nothing else
  pub record BrokeOff (told : List (Exchange C B)) (a b : LinkView) : Type 0 where
    pub first : List (Exchange C B)
    pub last : Exchange C B
    pub front : List ℕ
    pub parts : told ≡ first ++ last ∷ []
    pub within : IsFront front (text_of needs says last)
    pub wrote : StillAppends a.written b.written (texts_of needs says first ++ front)

  -- what of these exchanges' texts was written: all of them; where a write failed, a front of them within the last one; where memory ran out, all of them or all but the
  -- last one; where the link isn't served on, all of them, of which the last one is empty
  abbrev pub WroteSo : Option (Unserved S) → List Event → List (Exchange C B) → LinkView → LinkView → Type 0
  WroteSo None rest told a b = (rest ≡ []) × WroteAll told a b
  WroteSo (Some unserved.Read) rest told a b = ⊥
  WroteSo (Some unserved.Write) rest told a b = (rest ≡ []) × Rose a.writes b.writes × BrokeOff told a b
  WroteSo (Some unserved.NoMemory) rest told a b = WroteFirst told a b
  WroteSo (Some (unserved.Stopped why)) rest told a b = (rest ≡ []) × WroteAll told a b

  -- How the serving of a link ended. At an end, and where a read failed, all that the bytes complete was answered. Where a write failed, the bytes written are a front of the
  -- replies, within the last one; where memory ran out, they are whole replies, and at most the last one is missing; where the link isn't served on, they are the replies before
  abbrev pub EndsSo : Result LinkEnd (Unserved S) → ℕ → List ℕ → List (Exchange C B) → LinkView → LinkView → Type 0
  EndsSo (Ok Ended) limit bytes told a b = Unfinished limit bytes (events_of told) × IsAtEnd b.left × WroteAll told a b
  EndsSo (Ok Closed) limit bytes told a b = stands.Ended limit bytes (events_of told) × WroteAll told a b
  EndsSo (Ok Spent) limit bytes told a b = Unfinished limit bytes (events_of told) × (length bytes ≡ budget) × WroteAll told a b
  EndsSo (Err unserved.Read) limit bytes told a b = Unfinished limit bytes (events_of told) × Rose a.reads b.reads × WroteAll told a b
  EndsSo (Err unserved.Write) limit bytes told a b = HasCompletion limit bytes (events_of told) × Rose a.writes b.writes × BrokeOff told a b
  EndsSo (Err unserved.NoMemory) limit bytes told a b = HasCompletion limit bytes (events_of told) × WroteFirst told a b
  EndsSo (Err (unserved.Stopped why)) limit bytes told a b = HasCompletion limit bytes (events_of told) × WroteAll told a b

module _ {W E C B K S : Type 0} (question : C → K) (needs : Request → Routed K) (says : B → Bool → Said S) (legal : List E → Type 0) (plays : List E → C → B → List E → Type 0) where
  -- Events were answered in their order, each by its own reply or by the one call that it asks, up to the one at which that ended
  pub record Handled (why : Option (Unserved S)) (events : List Event) (v w : View W E C B) (a b : LinkView) : Type 0 where
    pub told : List (Exchange C B)
    pub rest : List Event
    pub covers : events ≡ events_of told ++ rest
    pub suits : AllByRecursion (Suits question needs) told
    pub calls : w.mine ≡ v.mine ++ calls_of told
    pub played : AllByRecursion (WasPlayed legal plays v.seen w.seen) (calls_of told)
    pub onward : IsPrefix v.seen w.seen
    pub goes : GoesSo says why told
    pub wrote : WroteSo needs says why rest told a b
    pub later : a.writes ≤ b.writes

  -- Of the bytes that were taken of a link, these events are what its connection gave, and they were answered
  pub record Session (conn : Conn) (taken : ℕ) (v w : View W E C B) (a b : LinkView) : Type 0 where
    pub bytes : List ℕ
    pub events : List Event
    pub count : taken ≡ length bytes
    pub took : Consumes a.left b.left bytes
    pub no_more : TakesNoMore (limit_of conn) bytes
    pub stands : Stands conn bytes events
    pub handled : Handled None events v w a b

  -- all that the bytes give was answered, and why nothing comes now
  pub record Paused (pause : Pause) (conn : Conn) (taken : ℕ) (v w : View W E C B) (a b : LinkView) : Type 0 where
    pub session : Session conn taken v w a b
    pub says_so : PauseSays pause (limit_of conn) session.bytes session.events

  -- not all that the bytes give was answered, and why
  pub record Broken (why : Unserved S) (limit taken : ℕ) (v w : View W E C B) (a b : LinkView) : Type 0 where
    pub bytes : List ℕ
    pub events : List Event
    pub count : taken ≡ length bytes
    pub took : Consumes a.left b.left bytes
    pub no_more : TakesNoMore limit bytes
    pub completes : HasCompletion limit bytes events
    pub handled : Handled (Some why) events v w a b

  -- A link was served. `bytes` were taken of it, and the exchanges are what happened for what a cut of them gives, in its order: each request had
  -- its own reply, or the one call that asks what it asks, and these are the calls that were added to the pass's own; each was played in
  -- its turn on one kept history. `ends` says how far the cut and the writing went
  pub record Served (result : Result LinkEnd (Unserved S)) (limit : ℕ) (v w : View W E C B) (a b : LinkView) : Type 0 where
    pub bytes : List ℕ
    pub within : length bytes ≤ budget
    pub took : Consumes a.left b.left bytes
    pub no_more : TakesNoMore limit bytes
    pub told : List (Exchange C B)
    pub suits : AllByRecursion (Suits question needs) told
    pub calls : w.mine ≡ v.mine ++ calls_of told
    pub played : AllByRecursion (WasPlayed legal plays v.seen w.seen) (calls_of told)
    pub onward : IsPrefix v.seen w.seen
    pub goes : GoesSo says (why_not result) told
    pub ends : EndsSo needs says result limit bytes told a b

-- what an event asks: at most one thing
abbrev pub asked_in : {K : Type 0} → Routed K → List K
asked_in (routed.Call k) = k ∷ []
asked_in (routed.Reply reply) = []

-- the same, by what its request needs
abbrev pub asked_by : {K : Type 0} → (Request → Routed K) → Event → List K
asked_by needs (Requests q) = asked_in (needs q)
asked_by needs _ = []

-- the calls of exchanges ask, in their order, exactly what the requests of their events ask
abbrev pub AskInOrder : {C K : Type 0} → (B : Type 0) → (C → K) → (Request → Routed K) → Type 0
AskInOrder {C} B question needs = (told : List (Exchange C B)) → AllByRecursion (Suits question needs) told → map (λ (m : Made C B). question m.call) (calls_of told) ≡ flat_map (asked_by needs) (events_of told)

module _ {W E C B K : Type 0} (question : C → K) (needs : Request → Routed K) where
  -- the calls that were added ask, in order and each once, what the requests of a cut of these bytes ask
  pub record AsksAllOf (limit : ℕ) (bytes : List ℕ) (v w : View W E C B) : Type 0 where
    pub cut : Cut
    pub is_cut : IsLinkCut limit bytes cut
    pub more : List (Made C B)
    pub added : w.mine ≡ v.mine ++ more
    pub asked : map (λ (m : Made C B). question m.call) more ≡ flat_map (asked_by needs) (cut_events cut)

-- a link that told all its bytes, fewer than are taken of one link, and was served to an end was asked all of them
abbrev pub WholeLinksAreAsked : (W : Type 0) → {E C B K S : Type 0} → (C → K) → (Request → Routed K) → (B → Bool → Said S) → (List E → Type 0) → (List E → C → B → List E → Type 0) → Type 0
WholeLinksAreAsked W {E} {C} {B} question needs says legal plays =
    (end : LinkEnd) (limit : ℕ) (bytes : List ℕ) (v w : View W E C B) (a b : LinkView) → Served question needs says legal plays (Ok end) limit v w a b → a.left ≡ Some bytes → length bytes < budget
    → AsksAllOf question needs limit bytes v w
