-- What a TapeState takes along.
use Rattle.std.specs.Prelude.{ℕ, ◌≡◌, length, filter, codes, []}
use Rattle.cta_site.specs.declared.site.Site.{Site}
use Rattle.cta_site.specs.declared.site.TapeState.{TapeState}
use Rattle.cta_model.specs.declared.asks.Job.{Job}
use Rattle.cta_model.specs.History.{History}
use Rattle.cta_model.specs.Recalls.{live_recall}
use Rattle.cta_model.specs.RepackItems.{repack_items}
use Rattle.part_laws.specs.Births.{files_of}
use Rattle.part_laws.specs.StateLists.{moved_recalls, recalls_on}
use Rattle.part_model.specs.Tapes.{Table}
use Rattle.part_moves.specs.Flags.{job_files}
use Rattle.part_moves.specs.Waiting.{waits_for_all}
use Rattle.tape_asks.specs.declared.found.Found.{Found}
use Rattle.tape_asks.specs.Losses.{is_lost_in}
use Rattle.part_moves.specs.Texts.{AreAll}

-- the live copies on the tape, each of another file, the recalls of their files that wait in queues, those that end once the tape has this state, the entries that
-- wait for these, and an error for each of the entries
pub record IsFound (site : Site) (h : History) (v : Table) (tape : ℕ) (s : TapeState) (x : Found) : Type 0 where
  pub items : x.items.items ≡ repack_items h tape
  pub once : files_of (repack_items h tape) [] ≡ job_files (repack_items h tape)
  pub moved : x.moved.items ≡ moved_recalls site h tape
  pub ended : x.ended.items ≡ filter (λ (j : Job). is_lost_in v tape s j.file) (recalls_on site h tape)
  pub waiters : x.waiters.items ≡ waits_for_all (live_recall site h) (job_files x.ended.items)
  pub many : length x.errors.items ≡ length x.waiters.items
  pub same : AreAll (codes "no tape is left") x.errors.items
