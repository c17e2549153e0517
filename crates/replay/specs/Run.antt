-- A run of a script: what its records bring about, in order.
use Rattle.std.specs.Prelude.{◌≡◌, ℕ, ◌==◌, List, [], ◌∷◌, Option, None, map, if◌then◌else◌}
use Rattle.std.specs.List.{flat_map}
use Rattle.cta_site.specs.declared.site.Site.{Site}
use Rattle.conn.specs.Cut.{Event}
use Rattle.drive_session.specs.declared.reports.Done.{Done}
use Rattle.blob.specs.Records.{MediumView}
use Rattle.media.specs.Drives.{DriveView}
use Rattle.links.specs.Run.{Turn, IsRun}
use Rattle.replay.specs.Script.{Record, OfLink, OfDrive, feed}

-- an event of a link, and the content that goes out with the reply to it, where one does
pub record Exchange : Type 0 where
  pub event : Event
  pub content : Option (List ℕ)

-- the event of an exchange
abbrev pub event_of : Exchange → Event
event_of x = x.event

-- the events of exchanges
abbrev pub events_of : List Exchange → List Event
events_of exchanges = map event_of exchanges

-- events with no content
abbrev pub bare_exchanges : List Event → List Exchange
bare_exchanges events = map (λ e. record { event = e; content = None }) events

-- a record and what it brings about: bytes complete events on their link, and in a step of a drive its device answers so, if a call is made, is then seen so, and leaves the
-- medium of its mount so
pub data ScriptTurn : Type 0 where
  OnLink : (link moment : ℕ) (bytes : List ℕ) (exchanges : List Exchange) → ScriptTurn
  OnDrive : (drive moment : ℕ) (done : Option Done) (seen : DriveView) (left : Option MediumView) → ScriptTurn

-- the record of a turn
abbrev pub record_of : ScriptTurn → Record
record_of (OnLink link moment bytes exchanges) = OfLink (feed link moment bytes)
record_of (OnDrive drive moment _ _ _) = OfDrive drive moment

-- the turn of a link, by its parts
abbrev pub turn_with : ℕ → ℕ → List ℕ → List Event → Turn
turn_with link moment bytes events = record { link = link; moment = moment; bytes = bytes; events = events }

-- the turn of the links that a turn of the script is, if it is one
abbrev pub links_turn : ScriptTurn → List Turn
links_turn (OnLink link moment bytes exchanges) = turn_with link moment bytes (events_of exchanges) ∷ []
links_turn (OnDrive _ _ _ _ _) = []

-- the turns of the links among those of the script
abbrev pub links_turns : List ScriptTurn → List Turn
links_turns turns = flat_map links_turn turns

-- what happens in a run: an event of a link is answered, or a drive makes a step
pub data Happening : Type 0 where
  Answered : (link moment : ℕ) (exchange : Exchange) → Happening
  Stepped : (drive moment : ℕ) (done : Option Done) (seen : DriveView) (left : Option MediumView) → Happening

-- exchanges on a link, at a moment
abbrev pub answered_on : ℕ → ℕ → List Exchange → List Happening
answered_on link moment exchanges = map (Answered link moment) exchanges

-- what happens in a turn
abbrev pub happenings_of : ScriptTurn → List Happening
happenings_of (OnLink link moment bytes exchanges) = answered_on link moment exchanges
happenings_of (OnDrive drive moment done seen left) = Stepped drive moment done seen left ∷ []

-- what happens in turns, in order
abbrev pub all_happenings : List ScriptTurn → List Happening
all_happenings turns = flat_map happenings_of turns

-- these turns are a run of these records: the turns of links among them are one of the links
abbrev pub IsScriptRun : Site → List Record → List ScriptTurn → Type 0
IsScriptRun site records turns = (map record_of turns ≡ records) × IsRun site.limits.file (links_turns turns)

-- what a turn has from outside: the contents that go out, in the order of its events; or what the device has answered
pub data FromOutside : Type 0 where
  Contents : List (Option (List ℕ)) → FromOutside
  Device : Option Done → FromOutside

abbrev pub from_outside : ScriptTurn → FromOutside
from_outside (OnLink link moment bytes exchanges) = Contents (map (λ x. x.content) exchanges)
from_outside (OnDrive drive moment done seen left) = Device done

-- what happens on a link
abbrev pub happening_on : ℕ → Happening → List Happening
happening_on link (Answered l moment exchange) = if l == link then Answered l moment exchange ∷ [] else []
happening_on link (Stepped _ _ _ _ _) = []

-- what happens on a link, of all that happens
abbrev pub happenings_on : ℕ → List Happening → List Happening
happenings_on link happenings = flat_map (happening_on link) happenings
