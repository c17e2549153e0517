-- The live jobs of a file, and where they stand.
use Rattle.std.specs.Prelude.{ℕ, zero, suc, ◌≡◌, ◌≤◌, List, [], ◌++◌, Option, Some, true, option_map}
use Rattle.cta_site.specs.declared.site.Site.{Site}
use Rattle.cta_model.specs.declared.asks.Job.{Job}
use Rattle.cta_model.specs.declared.states.Place.{Place}
use Rattle.cta_model.specs.Files.{copies_of_file}
use Rattle.cta_model.specs.History.{History}
use Rattle.cta_model.specs.Mounts.{has_job}
use Rattle.cta_model.specs.Queues.{pool_of_job}
use Rattle.cta_model.specs.Recalls.{Recall}
use Rattle.part_model.specs.JobBook.{Book, job_if}
use Rattle.part_model.specs.Queues.{Lines}
use Rattle.part_model.specs.Tapes.{Table, place_in}
use Rattle.job_queues.specs.Waiting.{jobs_of}

-- the archive jobs of a file's copies from 1 to n with these births
abbrev pub archives_in : (ℕ → ℕ → Option ℕ) → ℕ → ℕ → List Job
archives_in births f zero = []
archives_in births f (suc c) = archives_in births f c ++ job_if f (suc c) (births f (suc c))

-- the live jobs of a file of n copies, as a book tells them
abbrev pub jobs_in : Book → ℕ → ℕ → List Job
jobs_in b f n = job_if f 0 (option_map (λ (r : Recall). r.birth) (b.recall f)) ++ archives_in b.archive f n

-- one of the copies from 1 to n of a file has its place on this tape
pub record IsPlacedOn (v : Table) (f n tape : ℕ) : Type 0 where
  pub copy : ℕ
  pub place : Place
  pub from : 1 ≤ copy
  pub to : copy ≤ n
  pub is : place_in v f copy ≡ Some place
  pub on : place.tape ≡ tape

-- a job of a file of n copies stands in no queue but that of its pool, or those of the tapes on which its file has a place
pub record StandsWhere (site : Site) (h : History) (v : Table) (n : ℕ) (pools tapes : Lines) (j : Job) : Type 0 where
  pub copies : j.copy ≤ copies_of_file site h j.file
  pub archives : (k : ℕ) → has_job j (jobs_of (pools k)) ≡ true → (1 ≤ j.copy) × (pool_of_job site h j ≡ Some k)
  pub recalls : (k : ℕ) → has_job j (jobs_of (tapes k)) ≡ true → (j.copy ≡ 0) × IsPlacedOn v j.file n k
