-- What happens on a link: each event of its bytes, with the call that was made for it and the text that is due for it.
use Rattle.std.specs.Prelude.{◌≡◌, ℕ, List, [], ◌∷◌, ◌++◌, flat_map, map, length, Bool, Option, Some, None, Result, Ok, Err}
use Rattle.std.specs.List.{AllByRecursion}
use mathlib.Core.List.{IsPrefix}
use Rattle.conn.specs.Cut.{Event, Continues, Requests, Refuses, continue_text}
use Rattle.wire_http.specs.declared.request.Request.{Request}
use Rattle.wire_http.specs.Reply.{reply_text, refusal_reply}
use Rattle.turn_hall.specs.declared.view.Made.{Made}
use Rattle.link_loop.specs.declared.front.Routed.{Routed}
use Rattle.link_loop.specs.declared.front.Routed.TheVariants as routed
use Rattle.link_loop.specs.declared.front.Said.{Said}
use Rattle.link_loop.specs.declared.front.Said.TheVariants as said

-- an event of a link, with the call that was made for it, if one was
pub record Exchange (C B : Type 0) : Type 0 where
  pub event : Event
  pub call : Option (Made C B)

-- a call was played in its turn, on a legal history of the length that is noted with it: what its caller had seen before begins that history, and the history that it left
-- begins what the caller sees now
pub record WasPlayed {C B E : Type 0} (legal : List E → Type 0) (plays : List E → C → B → List E → Type 0) (seen seen' : List E) (m : Made C B) : Type 0 where
  pub before : List E
  pub later : List E
  pub was_legal : legal before
  pub place : length before ≡ m.at
  pub played : plays before m.call m.back later
  pub onward : IsPrefix seen before
  pub known : IsPrefix later seen'

module _ {C B : Type 0} where
  -- the call, if there is one
  abbrev pub listed : Option (Made C B) → List (Made C B)
  listed None = []
  listed (Some m) = m ∷ []

  -- the event of an exchange
  abbrev pub event_of : Exchange C B → Event
  event_of x = x.event

  -- the call of an exchange, if there is one
  abbrev pub call_of : Exchange C B → List (Made C B)
  call_of x = listed x.call

  -- the calls of exchanges, in their order
  abbrev pub calls_of : List (Exchange C B) → List (Made C B)
  calls_of xs = flat_map call_of xs

  -- the events of exchanges, in their order
  abbrev pub events_of : List (Exchange C B) → List Event
  events_of xs = map event_of xs

-- ---- which call is made

-- a request that needs a call has the one call that asks what it asks, and one that needs none has none
abbrev pub HasItsCall : {C B K : Type 0} → (C → K) → Routed K → Option (Made C B) → Type 0
HasItsCall question (routed.Reply reply) call = call ≡ None
HasItsCall question (routed.Call k) None = ⊥
HasItsCall question (routed.Call k) (Some m) = question m.call ≡ k

module _ {C B K : Type 0} (question : C → K) (needs : Request → Routed K) where
  -- a request has the call that it needs, and no other event has a call
  abbrev pub SuitsEvent : Event → Option (Made C B) → Type 0
  SuitsEvent Continues call = call ≡ None
  SuitsEvent (Refuses r) call = call ≡ None
  SuitsEvent (Requests q) call = HasItsCall question (needs q) call

  -- the same, of an exchange
  abbrev pub Suits : Exchange C B → Type 0
  Suits x = SuitsEvent x.event x.call

-- ---- which text is due

-- what is said to what came back, as text: nothing where the link isn't served on
abbrev pub said_text : {S : Type 0} → Said S → List ℕ
said_text (said.Reply reply) = reply_text reply
said_text (said.Stop why) = []

-- this is said, or memory ran out; that the link isn't served on is said without memory
abbrev pub SaysSo : {S E : Type 0} → Said S → Result (Said S) E → Type 0
SaysSo says (Ok t) = t ≡ says
SaysSo {S} says (Err e) = (why : S) → says ≡ said.Stop why → ⊥

-- the text of the reply to a request: its own, or the one to what came back from its call
abbrev pub request_text : {C B K S : Type 0} → (B → Bool → Said S) → Request → Routed K → Option (Made C B) → List ℕ
request_text says q (routed.Reply reply) call = reply_text reply
request_text says q (routed.Call k) (Some m) = said_text (says m.back q.close)
request_text says q (routed.Call k) None = []

module _ {C B K S : Type 0} (needs : Request → Routed K) (says : B → Bool → Said S) where
  -- the text that is due for an event: a 100 Continue and a refusal have their own
  abbrev pub event_text : Event → Option (Made C B) → List ℕ
  event_text Continues call = continue_text
  event_text (Refuses r) call = reply_text (refusal_reply r)
  event_text (Requests q) call = request_text says q (needs q) call

  -- the text that is due for an exchange
  abbrev pub text_of : Exchange C B → List ℕ
  text_of x = event_text x.event x.call

  -- the text that is due for exchanges, in their order
  abbrev pub texts_of : List (Exchange C B) → List ℕ
  texts_of xs = flat_map text_of xs

-- ---- where a link isn't served on

module _ {C B S : Type 0} (says : B → Bool → Said S) where
  -- the link is served on with what came back from the call of an event, if there is one
  abbrev pub GoesIn : Event → Option (Made C B) → Type 0
  GoesIn (Requests q) (Some m) = (why : S) → says m.back q.close ≡ said.Stop why → ⊥
  GoesIn e call = Unit {0}

  -- the same, of an exchange
  abbrev pub GoesOn : Exchange C B → Type 0
  GoesOn x = GoesIn x.event x.call

  -- what came back from the call of an event says that the link isn't served on, and why
  abbrev pub StopsIn : S → Event → Option (Made C B) → Type 0
  StopsIn why (Requests q) (Some m) = says m.back q.close ≡ said.Stop why
  StopsIn why e call = ⊥

  -- the last exchange stops the link so, and none before it does
  pub record StopsLast (why : S) (xs : List (Exchange C B)) : Type 0 where
    pub first : List (Exchange C B)
    pub last : Exchange C B
    pub parts : xs ≡ first ++ last ∷ []
    pub onward : AllByRecursion GoesOn first
    pub stops : StopsIn why last.event last.call
