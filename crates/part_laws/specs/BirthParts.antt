-- How asks that bear jobs move the job book and the queues.
use Rattle.std.specs.Prelude.{ℕ, length, List, []}
use Rattle.cta_site.specs.declared.site.Site.{Site}
use Rattle.cta_model.specs.declared.asks.Ask.{Ask}
use Rattle.cta_model.specs.declared.asks.Job.{Job}
use Rattle.cta_model.specs.History.{History}
use Rattle.cta_model.specs.declared.asks.Wanted.{Wanted}
use Rattle.cta_model.specs.declared.asks.Direction.TheVariants as direction
use Rattle.part_laws.specs.Lines.{add_jobs, of_way}
use Rattle.part_laws.specs.JobParts.{JobParts}
use Rattle.part_model.specs.JobBook.{bear_jobs, subscribe_files}
use Rattle.part_laws.specs.Births.{bearing, recalled, recalls_of, wanted_files}

-- jobs are born by the entry that makes g, which also waits for the live recalls of these files
abbrev pub after_births : Site → History → List Job → List ℕ → JobParts → JobParts
after_births site g born files p = record p {
  book = bear_jobs born (length g) (subscribe_files files (length g) p.book);
  pools = add_jobs site g direction.Archive (of_way direction.Archive born) p.pools;
  recalls = add_jobs site g direction.Retrieve (of_way direction.Retrieve born) p.recalls;
}

-- a Stage with this ask names these wanted paths
abbrev pub after_stage : Site → History → History → Ask → List Wanted → JobParts → JobParts
after_stage site h g k wanted p = after_births site g (recalls_of (length g) (bearing site h k (wanted_files h wanted []))) (recalled site h (wanted_files h wanted [])) p
