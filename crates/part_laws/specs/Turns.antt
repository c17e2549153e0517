-- A core calls a part once for each job. Calls one behind the other do what one call for all the jobs says.
use Rattle.std.specs.Prelude.{ℕ, ◌≡◌, List, [], ◌∷◌, ◌++◌, Some, false, if◌then◌else◌, ◌==◌, not, filter}
use Rattle.cta_model.specs.declared.asks.Job.{Job}
use Rattle.cta_model.specs.declared.states.Charge.{Charge}
use Rattle.cta_model.specs.History.{is_empty}
use Rattle.cta_model.specs.Mounts.{has_job}
use Rattle.cta_model.specs.Recalls.{Recall, recall_job}
use Rattle.part_model.specs.JobBook.{Book, TellSame, bear_jobs, charge_jobs, claim_jobs, drop_files, end_jobs, give_back_jobs, subscribe_files, unsubscribe_files}
use Rattle.part_model.specs.Queues.{Lines, taken_out}

-- the calls for jobs, and then for one more, leave the book as the calls for all of them do
pub record AreBookTurns (jobs : List Job) (k : Job) (b : Book) : Type 0 where
  pub claims : (m : ℕ) → TellSame (claim_jobs (k ∷ []) m (claim_jobs jobs m b)) (claim_jobs (jobs ++ k ∷ []) m b)
  pub returns : TellSame (give_back_jobs (k ∷ []) (give_back_jobs jobs b)) (give_back_jobs (jobs ++ k ∷ []) b)
  pub ends : TellSame (end_jobs (k ∷ []) (end_jobs jobs b)) (end_jobs (jobs ++ k ∷ []) b)
  pub births : (n : ℕ) → TellSame (bear_jobs (k ∷ []) n (bear_jobs jobs n b)) (bear_jobs (jobs ++ k ∷ []) n b)
  pub charges : (charge : Charge) → has_job k jobs ≡ false → TellSame (charge_jobs (k ∷ []) charge (charge_jobs jobs charge b)) (charge_jobs (jobs ++ k ∷ []) charge b)

-- so it is for every book
abbrev pub BookCallsInTurn : Type 0
BookCallsInTurn = (jobs : List Job) (k : Job) (b : Book) → AreBookTurns jobs k b

-- where a request leaves a live recall, and the recall is ended where it was the last, the book is as where the request is dropped
abbrev pub DropIsTwoCalls : Type 0
DropIsTwoCalls =
    (b : Book) (f id : ℕ) (r : Recall) → b.recall f ≡ Some r
    → TellSame (end_jobs (if is_empty (filter (λ s. not (s == id)) r.waiting) then recall_job r.birth f ∷ [] else []) (unsubscribe_files (f ∷ []) id b)) (drop_files (f ∷ []) id b)

-- jobs, and then one more, are taken out of a queue as all of them are
abbrev pub QueueCallsInTurn : Type 0
QueueCallsInTurn =
    (jobs : List Job) (k : Job) (key : ℕ) (lines : Lines) (q : ℕ) → taken_out key (k ∷ []) (taken_out key jobs lines) q ≡ taken_out key (jobs ++ k ∷ []) lines q

-- what calls of two books leave: the books tell the same again
pub record AreBookCallsSame (a b : Book) : Type 0 where
  pub claims : (jobs : List Job) (m : ℕ) → TellSame (claim_jobs jobs m a) (claim_jobs jobs m b)
  pub returns : (jobs : List Job) → TellSame (give_back_jobs jobs a) (give_back_jobs jobs b)
  pub ends : (jobs : List Job) → TellSame (end_jobs jobs a) (end_jobs jobs b)
  pub births : (jobs : List Job) (n : ℕ) → TellSame (bear_jobs jobs n a) (bear_jobs jobs n b)
  pub charges : (jobs : List Job) (charge : Charge) → TellSame (charge_jobs jobs charge a) (charge_jobs jobs charge b)
  pub waits : (fs : List ℕ) (n : ℕ) → TellSame (subscribe_files fs n a) (subscribe_files fs n b)
  pub leaves : (fs : List ℕ) (id : ℕ) → TellSame (unsubscribe_files fs id a) (unsubscribe_files fs id b)
  pub drops : (fs : List ℕ) (id : ℕ) → TellSame (drop_files fs id a) (drop_files fs id b)

-- the same call leaves two books that tell the same so that they do again
abbrev pub BookCallsAgree : Type 0
BookCallsAgree = (a b : Book) → TellSame a b → AreBookCallsSame a b
