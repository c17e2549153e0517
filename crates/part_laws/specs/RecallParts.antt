-- How asks that end recalls move the job book and the queues.
use Rattle.cta_model.specs.Recalls.{Recall, live_recall, unsubscribed}
use Rattle.std.specs.Prelude.{suc, Some, is_none, false, ◌==◌, ℕ, ◌≡◌, length, List, [], ◌∷◌, ◌&&◌, filter}
use Rattle.cta_site.specs.declared.site.Site.{Site}
use Rattle.cta_model.specs.declared.asks.Job.{Job}
use Rattle.cta_model.specs.History.{History, has_number}
use Rattle.cta_model.specs.Mounts.{has_job, job_of}
use Rattle.cta_model.specs.Jobs.{is_live_job}
use Rattle.cta_model.specs.declared.asks.Direction.TheVariants as direction
use Rattle.part_laws.specs.Lines.{add_jobs, of_way}
use Rattle.part_laws.specs.JobParts.{JobParts, still_live}
use Rattle.part_model.specs.JobBook.{bear_jobs, drop_files, end_jobs, give_back_jobs}
use Rattle.part_model.specs.Queues.{drop_jobs}

-- a recall is read: it is given back and has ended, and archive jobs of its file's repacked copies are born
abbrev pub after_recalled : Site → History → History → Job → List Job → JobParts → JobParts
after_recalled site h g job born p = record p {
  book = bear_jobs born (length g) (end_jobs (filter (is_live_job site h) (job ∷ [])) (give_back_jobs (job ∷ []) p.book));
  pools = add_jobs site g direction.Archive (of_way direction.Archive born) p.pools;
  recalls = add_jobs site g direction.Retrieve (of_way direction.Retrieve born) p.recalls;
}

-- the request is taken from the recalls of these files, and those for which it was the last leave their queues
abbrev pub after_unsubscribed : ℕ → List ℕ → List Job → JobParts → JobParts
after_unsubscribed id files gone p = record p { book = drop_files files id p.book; recalls = drop_jobs gone p.recalls }

-- these recalls are taken out of their queues, and those that live on are put into the queues of their keys
abbrev pub after_state : Site → History → List Job → List Job → JobParts → JobParts
after_state site g moved ended p = record p {
  book = end_jobs ended p.book;
  recalls = add_jobs site g direction.Retrieve (of_way direction.Retrieve (still_live site g moved)) (drop_jobs moved p.recalls);
}

-- the recalls of an id that end with these files: each live recall of them for which the request was the last
pub record AreLast (site : Site) (h : History) (id : ℕ) (files : List ℕ) (gone : List Job) : Type 0 where
  pub recalls : (f b : ℕ) (r : Recall) → live_recall site h f ≡ Some r → has_job (job_of b f 0) gone ≡ ((b == r.birth) && (has_number f files && is_none (unsubscribed id r)))
  pub no_archive_job : (f b c : ℕ) → has_job (job_of b f (suc c)) gone ≡ false
