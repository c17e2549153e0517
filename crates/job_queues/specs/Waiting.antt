-- Lines of the trees, and what the calls on queues tell.
use Rattle.std.specs.Prelude.{ℕ, ◌≡◌, List, [], length, map, sum_by}
use Rattle.cta_model.specs.declared.asks.Job.{Job}
use Rattle.part_model.specs.declared.jobs.Line.{Line}
use Rattle.part_model.specs.Queues.{Queues, lines_in}
use Rattle.job_queues.specs.declared.queued.Queued.{Queued}

-- the line that waits
abbrev pub line_of : Queued → Line
line_of q = record { job = q.job; len = q.len; born = q.born; priority = q.priority; age = q.age }

-- the lines that wait in a tree
abbrev pub lines_of : List Queued → List Line
lines_of qs = map line_of qs

-- the lines of all trees
abbrev pub queues_of : List (List Queued) → Queues
queues_of trees = map lines_of trees

-- the bytes of lines
abbrev pub bytes_of : List Line → ℕ
bytes_of ls = sum_by (λ (l : Line). l.len) ls

-- the jobs of lines
abbrev pub jobs_of : List Line → List Job
jobs_of ls = map (λ (l : Line). l.job) ls

-- so many keys, none with a line
pub record AreStarted (keys : ℕ) (queues : Queues) : Type 0 where
  pub many : length queues ≡ keys
  pub empty : (k : ℕ) → lines_in queues k ≡ []
