-- All parts of the kept state.
use Rattle.std.specs.Prelude.{ℕ, List, [], ◌≡◌}
use Rattle.cta_site.specs.declared.site.Site.{Site}
use Rattle.cta_model.specs.declared.asks.Direction.{Direction}
use Rattle.cta_model.specs.declared.asks.Job.{Job}
use Rattle.part_model.specs.declared.mounts.OpenMount.{OpenMount}
use Rattle.part_model.specs.JobBook.{TellSame}
use Rattle.part_model.specs.JobRows.{JobRows, book_in, no_rows}
use Rattle.part_model.specs.Queues.{Queues, lines_in}
use Rattle.part_model.specs.Counts.{Counts, count_in}
use Rattle.part_laws.specs.JobParts.{JobParts}
use Rattle.part_laws.specs.SpaceParts.{Parts, first_parts}

-- the values of all parts: the index of paths, the table of tapes, the buffer and the books of stage requests and of repacks (`space`);
-- the job book; the queues for writing, by pool, and for reading, by tape; the counts of open mounts; the open mounts; the drives that
-- are down; and the failed copies
pub record AllParts : Type 0 where
  pub space : Parts
  pub book : JobRows
  pub pools : Queues
  pub recalls : Queues
  pub counts : Counts
  pub mounts : List OpenMount
  pub downs : List ℕ
  pub failed : List Job

-- what the job book, the queues and the counts tell
abbrev pub jobs_in : AllParts → JobParts
jobs_in v = record { book = book_in v.book; pools = lines_in v.pools; recalls = lines_in v.recalls; counts = count_in v.counts }

-- two job books, two pairs of queues and two counts tell the same
pub record TellSameJobs (a b : JobParts) : Type 0 where
  pub book : TellSame a.book b.book
  pub pools : (key : ℕ) → a.pools key ≡ b.pools key
  pub recalls : (key : ℕ) → a.recalls key ≡ b.recalls key
  pub counts : (way : Direction) (vo : ℕ) → a.counts way vo ≡ b.counts way vo

-- all parts at the start: no tape has a byte, and nothing else has a row
abbrev pub empty_parts : Site → AllParts
empty_parts site = record {
  space = first_parts site;
  book = no_rows;
  pools = [];
  recalls = [];
  counts = record { archive = []; retrieve = [] };
  mounts = [];
  downs = [];
  failed = [];
}
