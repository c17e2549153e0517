-- The failed copies that a Retry tries again, and the jobs that it bears for them.
use Rattle.std.specs.Prelude.{ℕ, ◌≡◌, ◌≤◌, List, false, true}
use Rattle.std.specs.List.{AllByRecursion}
use Rattle.cta_site.specs.declared.site.Site.{Site}
use Rattle.cta_model.specs.declared.asks.Job.{Job}
use Rattle.cta_model.specs.Files.{copies_of_file}
use Rattle.cta_model.specs.History.{History, entry_of}
use Rattle.cta_model.specs.Mounts.{has_job}
use Rattle.job_queues.specs.Waiting.{jobs_of}
use Rattle.kept_history.specs.Puts.{is_put}
use Rattle.part_model.specs.Order.{InOrder}
use Rattle.part_model.specs.Queues.{Lines}

-- failed copies as the parts keep them: in order of file and copy, each as a job with birth 0, of a copy from 1 on
pub record AreCopies (q : List Job) : Type 0 where
  pub order : InOrder q
  pub births : AllByRecursion (λ (j : Job). j.birth ≡ 0) q
  pub copies : AllByRecursion (λ (j : Job). 1 ≤ j.copy) q

-- an archive job can be put into a queue: its file has its Put and this copy, and the job is in no queue yet
pub record CanQueue (site : Site) (h : History) (lines : Lines) (j : Job) : Type 0 where
  pub put : is_put (entry_of h j.file) ≡ true
  pub from : 1 ≤ j.copy
  pub to : j.copy ≤ copies_of_file site h j.file
  pub lacks : (k : ℕ) → has_job j (jobs_of (lines k)) ≡ false
