-- Failed copies as jobs, and their order.
use Rattle.std.specs.Prelude.{ℕ, ◌≡◌, ◌==◌, List, Option, Some, None, Bool, true, false, map}
use Rattle.std.specs.List.{list_any}
use Rattle.cta_model.specs.declared.asks.Job.{Job}
use Rattle.cta_model.specs.Mounts.{has_copy, job_of}
use Rattle.part_model.specs.Order.{goes_before}
use Rattle.failed_copies.specs.declared.rows.FailedRow.{FailedRow}

-- a copy as a job with birth 0
abbrev pub copy_of : FailedRow → Job
copy_of r = job_of 0 r.file r.copy

-- copies as jobs with birth 0
abbrev pub copies_of : List FailedRow → List Job
copies_of rs = map copy_of rs

-- whether a copy comes before another: lower file, then lower copy
abbrev pub row_before : FailedRow → FailedRow → Bool
row_before a b = goes_before (copy_of a) (copy_of b)

-- whether a copy of the file is among these
abbrev pub has_file : ℕ → List Job → Bool
has_file f js = list_any (λ (j : Job). j.file == f) js

-- a copy of the file that is among these, or none where there is none
abbrev pub IsOfFile : ℕ → List Job → Option Job → Type 0
IsOfFile f js None = has_file f js ≡ false
IsOfFile f js (Some job) = (job.file ≡ f) × (has_copy job.file job.copy js ≡ true)
