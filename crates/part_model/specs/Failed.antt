-- The value of the list of failed copies: each as a job with birth 0, in order of file and copy.
use Rattle.std.specs.Prelude.{ℕ, List, Option, Some, None, ◌==◌, not, map, filter}
use Rattle.cta_model.specs.declared.asks.Job.{Job}
use Rattle.cta_model.specs.Mounts.{has_copy, job_of}
use Rattle.part_model.specs.Order.{insert_jobs}

-- the copies of jobs
abbrev pub copies_of_jobs : List Job → List Job
copies_of_jobs jobs = map (λ (j : Job). job_of 0 j.file j.copy) jobs

-- the list after the copies of these jobs are added, each at its place
abbrev pub added_copies : List Job → List Job → List Job
added_copies jobs copies = insert_jobs (copies_of_jobs jobs) copies

-- the list after the copies of these jobs are taken out
abbrev pub removed_copies : List Job → List Job → List Job
removed_copies jobs copies = filter (λ (j : Job). not (has_copy j.file j.copy jobs)) copies

-- the list after all copies of a file are taken out, where there is a file
abbrev pub removed_file : Option ℕ → List Job → List Job
removed_file None copies = copies
removed_file (Some f) copies = filter (λ (j : Job). not (j.file == f)) copies
