-- The run of the links: what the bytes of a script's records complete on them.
use Rattle.std.specs.Prelude.{◌≡◌, ℕ, List, [], ◌∷◌, ◌++◌, ◌==◌, map}
use Rattle.std.specs.List.{filter, flat_map}
use Rattle.conn.specs.Cut.{Event}
use Rattle.conn.specs.Stands.{Settled}

-- what a record gives a link at a moment: bytes
pub record Feed : Type 0 where
  pub link : ℕ
  pub moment : ℕ
  pub bytes : List ℕ

-- a record of bytes, and the events that they complete on its link
pub record Turn : Type 0 where
  pub link : ℕ
  pub moment : ℕ
  pub bytes : List ℕ
  pub events : List Event

-- what the record gives
abbrev pub feed_of : Turn → Feed
feed_of t = record { link = t.link; moment = t.moment; bytes = t.bytes }

-- the turns of a link
abbrev pub on : ℕ → List Turn → List Turn
on link turns = filter (λ t. t.link == link) turns

-- all bytes that turns gave a link
abbrev pub bytes_on : ℕ → List Turn → List ℕ
bytes_on link turns = flat_map (λ t. t.bytes) (on link turns)

-- all events that turns completed on a link
abbrev pub events_on : ℕ → List Turn → List Event
events_on link turns = flat_map (λ t. t.events) (on link turns)

-- behind the events that its link gave before, the events of a turn are the further ones of a cut of all bytes of its link, its own at the end
abbrev pub Completes : ℕ → List Turn → Turn → Type 0
Completes limit before t = Settled limit (bytes_on t.link before ++ t.bytes) (events_on t.link before ++ t.events)

-- behind earlier turns, each turn has the events that its bytes complete
abbrev pub IsRunBehind : ℕ → List Turn → List Turn → Type 0
IsRunBehind limit before [] = Unit {0}
IsRunBehind limit before (t ∷ ts) = Completes limit before t × IsRunBehind limit (before ++ t ∷ []) ts

-- each turn has the events that its bytes complete; a file may have limit bytes
abbrev pub IsRun : ℕ → List Turn → Type 0
IsRun limit turns = IsRunBehind limit [] turns

-- a run of these feeds
abbrev pub IsRunOf : ℕ → List Feed → List Turn → Type 0
IsRunOf limit feeds turns = (map feed_of turns ≡ feeds) × IsRun limit turns

-- two turns of one link and moment as one
abbrev pub join : Turn → Turn → Turn
join a b = record { link = a.link; moment = a.moment; bytes = a.bytes ++ b.bytes; events = a.events ++ b.events }
