-- The maps that a job book is kept in, and the rows that they tell.
use Rattle.std.specs.Prelude.{ℕ, zero, suc, List, [], ◌∷◌, ◌++◌, Option, Some, None, Bool, ◌==◌, ◌&&◌, if◌then◌else◌, map, unwrap_or}
use Rattle.std.specs.Map.{lookup}
use Rattle.cta_site.specs.Listed.{rows}
use Rattle.cta_model.specs.declared.asks.Job.{Job}
use Rattle.cta_model.specs.declared.asks.Fault.TheVariants as fault
use Rattle.cta_model.specs.declared.states.Charge.{Charge}
use Rattle.part_model.specs.declared.jobs.LiveRecall.{LiveRecall}
use Rattle.part_model.specs.declared.jobs.ClaimedJob.{ClaimedJob}
use Rattle.part_model.specs.declared.jobs.ChargedJob.{ChargedJob}
use Rattle.part_model.specs.JobRows.{JobRows}
use Rattle.job_book.specs.declared.book.RecallRow.{RecallRow}

-- a copy of a file, as a key
abbrev pub CopyKey : Type 0
CopyKey = ℕ × ℕ

-- a job's birth, file and copy, as a key
abbrev pub JobKey : Type 0
JobKey = ℕ × ℕ × ℕ

-- the key of a job
abbrev pub key_of : Job → JobKey
key_of j = (j.birth, j.file, j.copy)

-- the job of a key
abbrev pub job_at : JobKey → Job
job_at k = record { birth = k.0; file = k.1; copy = k.2 }

-- whether a pair is this one
abbrev pub is_pair : ℕ → ℕ → ℕ × ℕ → Bool
is_pair a b k = a == k.0 && b == k.1

-- whether a key is this one
abbrev pub is_key : JobKey → JobKey → Bool
is_key a k = (a.0 == k.0 && a.1 == k.1) && a.2 == k.2

-- whether a place among the charges is this one
abbrev pub is_place : JobKey → ℕ → JobKey × ℕ → Bool
is_place a n k = is_key a k.0 && n == k.1

-- the maps: those that wait, by file and place; recalls by file; archive jobs and last births by copy; claims, numbers of charges and
-- names by job; charges by job and place
pub record Maps : Type 0 where
  pub waiting : List (CopyKey × ℕ)
  pub recalls : List (ℕ × RecallRow)
  pub archives : List (CopyKey × ℕ)
  pub births : List (CopyKey × ℕ)
  pub claims : List (JobKey × ℕ)
  pub counts : List (JobKey × ℕ)
  pub charges : List ((JobKey × ℕ) × Charge)
  pub named : List (JobKey × ℕ)

-- a number where there is one, as a list
abbrev pub listed : Option ℕ → List ℕ
listed None = []
listed (Some n) = n ∷ []

-- those of the first n places that wait
abbrev pub waiting_in : (ℕ → Option ℕ) → ℕ → List ℕ
waiting_in look zero = []
waiting_in look (suc n) = waiting_in look n ++ listed (look n)

-- who waits for a file's recall, at a place
abbrev pub waits_at : List (CopyKey × ℕ) → ℕ → ℕ → Option ℕ
waits_at waiting f i = lookup (is_pair f i) waiting

-- what stands for a charge that is not there
abbrev pub no_charge : Charge
no_charge = record { drive = 0; tape = 0; fault = fault.Load }

-- a charge of a job, by its place
abbrev pub charge_at : List ((JobKey × ℕ) × Charge) → JobKey → ℕ → Charge
charge_at charges k i = unwrap_or (lookup (is_place k i) charges) no_charge

-- the charges at the first n places
abbrev pub charges_in : (ℕ → Charge) → ℕ → List Charge
charges_in look zero = []
charges_in look (suc n) = charges_in look n ++ look n ∷ []

-- a live recall
abbrev pub recall_row : List (CopyKey × ℕ) → ℕ × RecallRow → LiveRecall
recall_row waiting e = record { file = e.0; birth = e.1.birth; waiting = rows (waiting_in (waits_at waiting e.0) e.1.places) }

-- a job of a copy, by its birth
abbrev pub birth_row : CopyKey × ℕ → Job
birth_row e = record { birth = e.1; file = e.0.0; copy = e.0.1 }

-- a claimed job
abbrev pub claim_row : JobKey × ℕ → ClaimedJob
claim_row e = record { job = job_at e.0; mount = e.1 }

-- a charged job
abbrev pub charge_row : List ((JobKey × ℕ) × Charge) → JobKey × ℕ → ChargedJob
charge_row charges e = record { job = job_at e.0; charges = rows (charges_in (charge_at charges e.0) e.1) }

-- a job that was named
abbrev pub named_row : JobKey × ℕ → Job
named_row e = job_at e.0

-- the rows that the maps tell
abbrev pub rows_of : Maps → JobRows
rows_of m = record {
  recalls = map (recall_row m.waiting) m.recalls;
  archives = map birth_row m.archives;
  claims = map claim_row m.claims;
  charges = map (charge_row m.charges) m.counts;
  births = map birth_row m.births;
  named = map named_row m.named;
}

-- a number where there is one and it is another
abbrev pub left_out : ℕ → Option ℕ → Option ℕ
left_out id None = None
left_out id (Some n) = if n == id then None else Some n

-- the places of a row, 0 where there is none
abbrev pub places_or : Option RecallRow → ℕ
places_or None = 0
places_or (Some r) = r.places

-- at how many places entries wait or waited for a file's recall
abbrev pub places_in : List (ℕ × RecallRow) → ℕ → ℕ
places_in recalls f = places_or (lookup (λ k. f == k) recalls)
