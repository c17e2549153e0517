-- The look-ups of a job book, and what its calls do to them.
use Rattle.std.specs.Prelude.{ℕ, suc, ◌≡◌, List, [], ◌∷◌, ◌++◌, Option, Some, None, option_map, Bool, true, ◌||◌, if◌then◌else◌, ◌==◌, not, filter}
use Rattle.cta_model.specs.declared.asks.Job.{Job}
use Rattle.cta_model.specs.declared.states.Charge.{Charge}
use Rattle.cta_model.specs.History.{has_number}
use Rattle.cta_model.specs.Mounts.{has_job, has_copy, job_of}
use Rattle.cta_model.specs.Recalls.{Recall, subscribed, unsubscribed}

-- what a job book can be asked: the live recall of a file with those that wait for it, the birth of the live archive job of a copy,
-- the mount that claims a job, the charges of a job, the birth of the last job that was born for a copy, and whether a Claim has ever
-- named a job
pub record Book : Type 0 where
  pub recall : ℕ → Option Recall
  pub archive : ℕ → ℕ → Option ℕ
  pub claimer : Job → Option ℕ
  pub charges : Job → List Charge
  pub last_birth : ℕ → ℕ → Option ℕ
  pub named : Job → Bool

-- two books answer the same; archive jobs are of copies from 1
pub record TellSame (a b : Book) : Type 0 where
  pub recall : (f : ℕ) → a.recall f ≡ b.recall f
  pub archive : (f c : ℕ) → a.archive f (suc c) ≡ b.archive f (suc c)
  pub claimer : (j : Job) → a.claimer j ≡ b.claimer j
  pub charges : (j : Job) → a.charges j ≡ b.charges j
  pub last_birth : (f c : ℕ) → a.last_birth f c ≡ b.last_birth f c
  pub named : (j : Job) → a.named j ≡ b.named j

-- each is claimed by the mount, and has been named by a Claim
abbrev pub claim_jobs : List Job → ℕ → Book → Book
claim_jobs js m b = record b { claimer = λ j. if has_job j js then Some m else b.claimer j; named = λ j. has_job j js || b.named j }

-- none is claimed
abbrev pub give_back_jobs : List Job → Book → Book
give_back_jobs js b = record b { claimer = λ j. if has_job j js then None else b.claimer j }

-- each has ended
abbrev pub end_jobs : List Job → Book → Book
end_jobs js b = record b { recall = λ f. if has_copy f 0 js then None else b.recall f; archive = λ f c. if has_copy f c js then None else b.archive f c }

-- each is born by the entry of this number, which waits for the recalls
abbrev pub bear_jobs : List Job → ℕ → Book → Book
bear_jobs js n b = record b { recall = λ f. if has_copy f 0 js then Some (record { birth = n; waiting = n ∷ [] }) else b.recall f; archive = λ f c. if has_copy f c js then Some n else b.archive f c; last_birth = λ f c. if has_copy f c js then Some n else b.last_birth f c }

-- each has one charge more
abbrev pub charge_jobs : List Job → Charge → Book → Book
charge_jobs js charge b = record b { charges = λ j. if has_job j js then b.charges j ++ charge ∷ [] else b.charges j }

-- the entry of this number waits for the recall of each of these files too
abbrev pub subscribe_files : List ℕ → ℕ → Book → Book
subscribe_files fs n b = record b { recall = λ f. if has_number f fs then option_map (subscribed true n) (b.recall f) else b.recall f }

-- the request waits for the recall of none of these files
abbrev pub unsubscribe_files : List ℕ → ℕ → Book → Book
unsubscribe_files fs id b = record b { recall = λ f. if has_number f fs then option_map (λ (r : Recall). record r { waiting = filter (λ s. not (s == id)) r.waiting }) (b.recall f) else b.recall f }

-- the live job of a copy, none where there is none
abbrev pub job_if : ℕ → ℕ → Option ℕ → List Job
job_if f c None = []
job_if f c (Some b) = job_of b f c ∷ []

-- a recall that the request no longer waits for, none where it was the last
abbrev pub drop_from : ℕ → Option Recall → Option Recall
drop_from id None = None
drop_from id (Some r) = unsubscribed id r

-- the request waits for the recall of none of these files, and a recall ends where it was the last
abbrev pub drop_files : List ℕ → ℕ → Book → Book
drop_files fs id b = record b { recall = λ f. if has_number f fs then drop_from id (b.recall f) else b.recall f }
