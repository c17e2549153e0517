-- What a Repack takes along.
use Rattle.std.specs.Prelude.{ℕ, ◌≡◌, ◌+◌, ◌≤◌, length, [], filter}
use Rattle.cta_site.specs.declared.site.Site.{Site}
use Rattle.cta_model.specs.declared.asks.Ask.TheVariants as ask
use Rattle.cta_model.specs.declared.asks.Who.{Who}
use Rattle.cta_model.specs.Buffer.{is_resident}
use Rattle.cta_model.specs.History.{History}
use Rattle.cta_model.specs.RepackItems.{repack_items}
use Rattle.part_laws.specs.Births.{archives_of, bearing, files_of, recalled, recalls_of}
use Rattle.part_laws.specs.BookCalls.{items_here}
use Rattle.part_moves.specs.Flags.{job_files}
use Rattle.tape_asks.specs.Lists.{targets_of}
use Rattle.tape_asks.specs.declared.ready.Found.{Found}

-- the items of a repack of the tape, each of another file, the files whose recalls it joins, and the recalls and the archive jobs that it bears
pub record IsTaken (site : Site) (h : History) (who : Who) (tape : ℕ) (x : Found) : Type 0 where
  pub items : x.items.items ≡ repack_items h tape
  pub once : files_of (repack_items h tape) [] ≡ job_files (repack_items h tape)
  pub joined : x.joined.items ≡ recalled site h (files_of (repack_items h tape) [])
  pub newborn : x.newborn.items ≡ recalls_of (length h + 1) (bearing site h (ask.Repack who tape) (files_of (repack_items h tape) []))
  pub written : x.written.items ≡ archives_of h (length h + 1) (repack_items h tape) []
  pub here : job_files x.written.items ≡ filter (is_resident h) (job_files (repack_items h tape))
  pub targets : targets_of (length h + 1) x.written.items ≡ items_here h (length h + 1) (repack_items h tape)
  pub few_reads : length x.newborn.items ≤ 1000000
  pub few_writes : length x.written.items ≤ 1000000
