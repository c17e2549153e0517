-- The value of a queue part: its lines, what its calls do, and the sums of a queue.
use Rattle.std.specs.Prelude.{ℕ, List, [], ◌∷◌, Option, Some, None, Bool, false, if◌then◌else◌, ◌==◌, nat_le, not, map, filter, length, sum_by}
use Rattle.std.specs.List.{slice_index_or}
use Rattle.cta_model.specs.declared.asks.Job.{Job}
use Rattle.cta_model.specs.declared.states.Sums.{Sums}
use Rattle.cta_model.specs.Mounts.{has_job}
use Rattle.cta_model.specs.Queues.{highest, least}
use Rattle.part_model.specs.declared.jobs.Line.{Line}
use Rattle.part_model.specs.Order.{goes_before}

-- the lines of each key, in order of birth, file and copy: what a queue part tells
abbrev pub Lines : Type 0
Lines = ℕ → List Line

-- the value of a queue part: the queues of one direction, by key
abbrev pub Queues : Type 0
Queues = List (List Line)

-- what queues tell: a key beyond the last has no line
abbrev pub lines_in : Queues → Lines
lines_in queues key = slice_index_or queues key []

-- lines in order with one more among them, at its place
abbrev pub insert_line : Line → List Line → List Line
insert_line l [] = l ∷ []
insert_line l (k ∷ ks) = if goes_before l.job k.job then l ∷ k ∷ ks else k ∷ insert_line l ks

-- the lines after one is added to a key
abbrev pub added : ℕ → Line → Lines → Lines
added key l lines k = if k == key then insert_line l (lines k) else lines k

-- the lines after these jobs are taken out of a key
abbrev pub taken_out : ℕ → List Job → Lines → Lines
taken_out key js lines k = if k == key then filter (λ (l : Line). not (has_job l.job js)) (lines k) else lines k

-- the first line's job
abbrev pub front_job : List Line → Option Job
front_job [] = None
front_job (l ∷ ls) = Some l.job

-- the job of the first line behind a job
abbrev pub job_after : Job → List Line → Option Job
job_after j ls = front_job (filter (λ (l : Line). goes_before j l.job) ls)

-- the sums of lines, none where there is no line
abbrev pub line_sums : List Line → Option Sums
line_sums [] = None
line_sums (l ∷ ls) = Some (record {
  files = length (l ∷ ls);
  bytes = sum_by (λ (k : Line). k.len) (l ∷ ls);
  least = least (map (λ (k : Line). k.len) (l ∷ ls));
  oldest = l.job;
  born = l.born;
  priority = highest (map (λ (k : Line). k.priority) (l ∷ ls));
  age = least (map (λ (k : Line). k.age) (l ∷ ls));
})

-- whether the least of the sizes is at most the room; where there are no sums, there is no job
abbrev pub fits_in : ℕ → Option Sums → Bool
fits_in room None = false
fits_in room (Some s) = nat_le s.least room

-- a line is added under a key, where there is one
abbrev pub add_at : Option ℕ → Line → Lines → Lines
add_at None l lines = lines
add_at (Some key) l lines = added key l lines

-- each of these jobs is taken out of whatever queue it is in
abbrev pub drop_jobs : List Job → Lines → Lines
drop_jobs js lines key = filter (λ (l : Line). not (has_job l.job js)) (lines key)
