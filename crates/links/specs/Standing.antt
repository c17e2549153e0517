-- What the connections of the links stand for.
use Rattle.std.specs.Prelude.{◌≡◌, ℕ, List, [], ◌∷◌, ◌++◌, Option, Some, None, Result, Ok, Err, if◌then◌else◌, ◌==◌, slice_get}
use Rattle.conn.specs.Cut.{Event}
use Rattle.conn.specs.Stands.{Stands, Ended, Unfinished, HasRoom, limit_of, left, next_events, given_by}
use Rattle.conn.specs.declared.connection.Conn.{Conn}
use Rattle.conn.specs.declared.next.Next.{Next}
use Rattle.conn.specs.declared.next.Next.TheVariants as next
use Rattle.links.specs.Run.{Turn, bytes_on, events_on, IsRun, join}
use Rattle.links.specs.declared.links.Links.{Links}

-- a list for each link, with more behind that of one link
abbrev pub behind : {A : Type 0} → (ℕ → List A) → ℕ → List A → ℕ → List A
behind lists link more k = if k == link then lists k ++ more else lists k

-- the connection of a link
abbrev pub conn_on : Links → ℕ → Option Conn
conn_on links link = slice_get links.conns.items link

-- that connection reads files of up to limit bytes, and of all bytes that it was fed those events are what it gave
pub record ConnStands (limit : ℕ) (conn : Conn) (fed : List ℕ) (given : List Event) : Type 0 where
  pub limit_is : limit_of conn ≡ limit
  pub stands : Stands conn fed given

-- each of these connections, of the links 0 and on, stands for the bytes that its link was fed, and gave that link's events
abbrev pub EachStands : List Conn → ℕ → (ℕ → List ℕ) → (ℕ → List Event) → Type 0
EachStands conns limit fed given = (link : ℕ) (conn : Conn) → slice_get conns link ≡ Some conn → ConnStands limit conn (fed link) (given link)

-- each link stands for the bytes that it was fed, and gave those events
abbrev pub LinksStand : Links → ℕ → (ℕ → List ℕ) → (ℕ → List Event) → Type 0
LinksStand links limit fed given = EachStands links.conns.items limit fed given

-- what an answer says of a link's bytes: where more bytes are needed, all was given that they give and they are unfinished; where the link is closed, all
-- was given that they give and nothing else is read
abbrev pub Says : Next → ℕ → List ℕ → List Event → Type 0
Says next.Need limit fed given = Unfinished limit fed given
Says next.Continue limit fed given = Unit {0}
Says (next.Request r) limit fed given = Unit {0}
Says (next.Refused r) limit fed given = Unit {0}
Says next.Closed limit fed given = Ended limit fed given

-- an answer stands at the end of what its link gave; after want of memory all is as before
abbrev pub GivesOn : {E : Type 0} → List Conn → ℕ → ℕ → Result Next E → (ℕ → List ℕ) → (ℕ → List Event) → Type 0
GivesOn conns limit link (Ok n) fed given = EachStands conns limit fed (behind given link (next_events n)) × Says n limit (fed link) (given link)
GivesOn conns limit link (Err e) fed given = EachStands conns limit fed given

-- the same, of the links
abbrev pub Answers : {E : Type 0} → Links → ℕ → ℕ → Result Next E → (ℕ → List ℕ) → (ℕ → List Event) → Type 0
Answers links limit link result fed given = GivesOn links.conns.items limit link result fed given

-- a connection that is there can keep so many bytes more without memory
abbrev pub IsRoomy : Option Conn → ℕ → Type 0
IsRoomy None more = ⊥
IsRoomy (Some conn) more = HasRoom conn more

-- the connection of a link can keep so many bytes more without memory
abbrev pub HasRoomOn : Links → ℕ → ℕ → Type 0
HasRoomOn links link more = IsRoomy (conn_on links link) more

-- what is left to do on that connection
abbrev pub left_of : Option Conn → ℕ
left_of None = 0
left_of (Some conn) = left conn

-- what is left to do on a link: it falls with each answer that isn't Need or Closed
abbrev pub left_on : Links → ℕ → ℕ
left_on links link = left_of (conn_on links link)

-- a turn of a link, with the answers as its events
abbrev pub turn_of : ℕ → ℕ → List ℕ → List Next → Turn
turn_of link moment bytes answers = record { link = link; moment = moment; bytes = bytes; events = given_by answers }

-- the turns are a run, and each link stands for its bytes and events among them
abbrev pub StandFor : Links → ℕ → List Turn → Type 0
StandFor links limit turns = LinksStand links limit (λ link. bytes_on link turns) (λ link. events_on link turns) × IsRun limit turns

-- the run of these turns goes on with a turn of those bytes, and some events
abbrev pub GoesOn : ℕ → List Turn → ℕ → ℕ → List ℕ → Type 0
GoesOn limit turns link moment bytes = (events : List Event) × IsRun limit (turns ++ record { link = link; moment = moment; bytes = bytes; events = events } ∷ [])

-- the run of these turns and of one that was begun goes on with those bytes at its end, and some events
abbrev pub GoesOnJoined : ℕ → List Turn → Turn → List ℕ → Type 0
GoesOnJoined limit turns begun bytes =
    (events : List Event) × IsRun limit (turns ++ join begun (record { link = begun.link; moment = begun.moment; bytes = bytes; events = events }) ∷ [])
