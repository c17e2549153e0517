-- The lines of the queues of a history.
use Rattle.std.specs.Prelude.{ℕ, ◌≡◌, List, [], ◌∷◌, map, filter}
use Rattle.cta_site.specs.declared.site.Site.{Site}
use Rattle.cta_model.specs.declared.asks.Job.{Job}
use Rattle.cta_model.specs.declared.asks.Direction.{Direction}
use Rattle.cta_model.specs.History.{History}
use Rattle.cta_model.specs.Files.{size_of}
use Rattle.cta_model.specs.Mounts.{same_direction}
use Rattle.cta_model.specs.Policies.{policy_of, priority_in, age_in}
use Rattle.cta_model.specs.Queues.{queue_of, born_at, key_of, direction_of}
use Rattle.part_model.specs.declared.jobs.Line.{Line}
use Rattle.part_model.specs.Queues.{Lines, add_at}

-- a job as a history has it queued
abbrev pub line_of : Site → History → Direction → Job → Line
line_of site h way j = record { job = j; len = size_of h j.file; born = born_at h j; priority = priority_in way (policy_of site h j); age = age_in way (policy_of site h j) }

-- the lines stand for the queues of a history in one direction
abbrev pub AreLines : Site → History → Direction → Lines → Type 0
AreLines site h way lines = (key : ℕ) → lines key ≡ map (line_of site h way) (queue_of site h way key)

-- each of these jobs is added under its key
abbrev pub add_jobs : Site → History → Direction → List Job → Lines → Lines
add_jobs site h way [] lines = lines
add_jobs site h way (j ∷ js) lines = add_at (key_of site h j) (line_of site h way j) (add_jobs site h way js lines)

-- the jobs that go this way
abbrev pub of_way : Direction → List Job → List Job
of_way way js = filter (λ j. same_direction way (direction_of j)) js
