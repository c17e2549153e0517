-- The files of jobs, whose flags are set.
use Rattle.std.specs.Prelude.{ℕ, List, map}
use Rattle.cta_model.specs.declared.asks.Job.{Job}

-- the files of jobs
abbrev pub job_files : List Job → List ℕ
job_files jobs = map (λ (j : Job). j.file) jobs
