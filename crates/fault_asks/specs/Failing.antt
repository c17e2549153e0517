-- The jobs that a Failed names: those that end with their charge, those that are live, and what puts them back into their queues.
use Rattle.std.specs.Prelude.{ℕ, ◌≡◌, ◌≤◌, ◌+◌, List, [], ◌∷◌, Option, length, Bool, true, false, ◌&&◌, is_none, filter, nat_le}
use Rattle.cta_site.specs.declared.site.Site.{Site}
use Rattle.cta_model.specs.declared.asks.Job.{Job}
use Rattle.cta_model.specs.Files.{copies_of_file}
use Rattle.cta_model.specs.History.{History, entry_of}
use Rattle.cta_model.specs.Mounts.{has_copy, has_job}
use Rattle.kept_history.specs.Puts.{is_put}
use Rattle.job_book.specs.Live.{lives}
use Rattle.job_queues.specs.Waiting.{jobs_of}
use Rattle.part_model.specs.JobBook.{Book}
use Rattle.part_model.specs.Queues.{Lines, add_at}
use Rattle.part_model.specs.declared.jobs.Line.{Line}
use Rattle.part_model.specs.Tapes.{Table, place_in}

-- whether a job is live, and one charge more is its last, where so many charges end a job
abbrev pub is_last_in : ℕ → Book → Job → Bool
is_last_in tries b j = lives j b && nat_le tries (length (b.charges j) + 1)

-- of jobs that are charged once more, those that end
abbrev pub jobs_ended : ℕ → Book → List Job → List Job
jobs_ended tries b jobs = filter (is_last_in tries b) jobs

-- of jobs, those that are live
abbrev pub jobs_live : Book → List Job → List Job
jobs_live b jobs = filter (λ j. lives j b) jobs

-- of jobs, those whose copies have no place
abbrev pub jobs_unplaced : Table → List Job → List Job
jobs_unplaced v jobs = filter (λ (j : Job). is_none (place_in v j.file j.copy)) jobs

-- none of these jobs is of a failed copy, and no two are of the same copy
abbrev pub CanFail : List Job → List Job → Type 0
CanFail copies [] = Unit {0}
CanFail copies (j ∷ js) = (has_copy j.file j.copy copies ≡ false) × (has_copy j.file j.copy js ≡ false) × CanFail copies js

-- each of these jobs is added under its key with its line
abbrev pub add_by : (Job → Option ℕ) → (Job → Line) → List Job → Lines → Lines
add_by key line [] lines = lines
add_by key line (j ∷ js) lines = add_at (key j) (line j) (add_by key line js lines)

-- a job that is live can be put into a queue: its file has its Put, and it is in no queue yet
pub record IsBack (site : Site) (h : History) (lines : Lines) (j : Job) : Type 0 where
  pub put : is_put (entry_of h j.file) ≡ true
  pub to : j.copy ≤ copies_of_file site h j.file
  pub lacks : (k : ℕ) → has_job j (jobs_of (lines k)) ≡ false

-- each of these jobs that is live can be put into a queue, and none is listed twice
abbrev pub CanQueue : Site → History → Book → Lines → List Job → Type 0
CanQueue site h b lines [] = Unit {0}
CanQueue site h b lines (j ∷ js) = (lives j b ≡ true → IsBack site h lines j) × (has_job j js ≡ false) × CanQueue site h b lines js
