-- The index of paths, the table of tapes, the buffer, and the books of stage requests and of repacks, together.
use Rattle.std.specs.Prelude.{[], map}
use Rattle.cta_site.specs.declared.site.Site.{Site}
use Rattle.cta_site.specs.declared.site.Tape.{Tape}
use Rattle.cta_model.specs.declared.entries.Entry.{Entry}
use Rattle.cta_model.specs.History.{History}
use Rattle.part_model.specs.declared.space.TapeRow.{TapeRow}
use Rattle.part_model.specs.Names.{Names}
use Rattle.part_model.specs.Tapes.{Table}
use Rattle.part_model.specs.Held.{ArePinsHeld, Held}
use Rattle.part_model.specs.Requests.{Requests}
use Rattle.part_model.specs.Repacks.{Repacks}
use Rattle.part_laws.specs.Names.{AreNames}
use Rattle.part_laws.specs.Tapes.{IsTable}
use Rattle.part_laws.specs.Held.{IsHeld}
use Rattle.part_laws.specs.Books.{AreRepacks, AreRequests}
use Rattle.part_laws.specs.BookCalls.{RepacksCalled, RequestsCalled}
use Rattle.part_laws.specs.TableCalls.{NamesCalled, TableCalled}
use Rattle.part_laws.specs.BufferCalls.{BufferCalled}

-- the five parts
pub record Parts : Type 0 where
  pub names : Names
  pub tapes : Table
  pub buffer : Held
  pub requests : Requests
  pub repacks : Repacks

-- the parts stand for the history, each for itself, and the buffer keeps its own rule
pub record AreParts (site : Site) (h : History) (v : Parts) : Type 0 where
  pub names : AreNames h v.names
  pub tapes : IsTable site h v.tapes
  pub buffer : IsHeld site h v.buffer
  pub pins : ArePinsHeld v.buffer
  pub requests : AreRequests site h v.requests
  pub repacks : AreRepacks site h v.repacks

-- the calls for the entry e are made, on each of the parts
pub record ArePartsCalled (site : Site) (h : History) (e : Entry) (v v' : Parts) : Type 0 where
  pub names : NamesCalled h e.ask v.names v'.names
  pub tapes : TableCalled h e e.ask e.answer v.tapes v'.tapes
  pub buffer : BufferCalled site h e e.ask e.answer v.buffer v'.buffer
  pub requests : RequestsCalled site h e e.ask e.answer v.requests v'.requests
  pub repacks : RepacksCalled site h e e.ask e.answer v.repacks v'.repacks

-- the row of a tape at the start: no byte is used, and the first item has fSeq 1
abbrev pub first_row : Tape → TapeRow
first_row t = record { used = 0; next = 1; state = t.state }

-- the parts at the start
abbrev pub first_parts : Site → Parts
first_parts site = record {
  names = [];
  tapes = record { rows = map first_row site.tapes.items; places = [] };
  buffer = record { size = site.limits.buffer; files = []; pins = []; aside = 0 };
  requests = [];
  repacks = [];
}
