-- The rows of a job book, and its look-ups over them.
use Rattle.std.specs.Prelude.{ℕ, List, [], Option, Some, None, option_map, ◌==◌, ◌&&◌}
use Rattle.std.specs.List.{find}
use Rattle.cta_model.specs.declared.asks.Job.{Job}
use Rattle.cta_model.specs.declared.states.Charge.{Charge}
use Rattle.cta_model.specs.Mounts.{has_job, same_job}
use Rattle.cta_model.specs.Recalls.{Recall}
use Rattle.part_model.specs.declared.jobs.LiveRecall.{LiveRecall}
use Rattle.part_model.specs.declared.jobs.ClaimedJob.{ClaimedJob}
use Rattle.part_model.specs.declared.jobs.ChargedJob.{ChargedJob}
use Rattle.part_model.specs.JobBook.{Book}

-- the value of a job book: the live recalls, the live archive jobs, the claimed jobs with their mounts, the charged jobs with their
-- charges, the last job that was born for each copy, and the jobs that a Claim has named
pub record JobRows : Type 0 where
  pub recalls : List LiveRecall
  pub archives : List Job
  pub claims : List ClaimedJob
  pub charges : List ChargedJob
  pub births : List Job
  pub named : List Job

-- the live recall of a file, none where there is no row of it
abbrev pub recall_in : List LiveRecall → ℕ → Option Recall
recall_in rows f = option_map (λ (r : LiveRecall). record { birth = r.birth; waiting = r.waiting.items }) (find (λ (r : LiveRecall). r.file == f) rows)

-- the birth of the first of these jobs that is of the copy, none where there is none
abbrev pub birth_in : List Job → ℕ → ℕ → Option ℕ
birth_in jobs f c = option_map (λ (j : Job). j.birth) (find (λ (j : Job). j.file == f && j.copy == c) jobs)

-- the mount that claims a job, none where there is no row of it
abbrev pub claimer_in : List ClaimedJob → Job → Option ℕ
claimer_in rows j = option_map (λ (r : ClaimedJob). r.mount) (find (λ (r : ClaimedJob). same_job r.job j) rows)

-- the charges of a row, none where there is no row
abbrev pub charges_or_none : Option ChargedJob → List Charge
charges_or_none None = []
charges_or_none (Some r) = r.charges.items

-- the charges of a job
abbrev pub charges_in : List ChargedJob → Job → List Charge
charges_in rows j = charges_or_none (find (λ (r : ChargedJob). same_job r.job j) rows)

-- what the rows of a job book tell
abbrev pub book_in : JobRows → Book
book_in v = record {
  recall = recall_in v.recalls;
  archive = birth_in v.archives;
  claimer = claimer_in v.claims;
  charges = charges_in v.charges;
  last_birth = birth_in v.births;
  named = λ j. has_job j v.named;
}

-- a job book with no row
abbrev pub no_rows : JobRows
no_rows = record { recalls = []; archives = []; claims = []; charges = []; births = []; named = [] }
