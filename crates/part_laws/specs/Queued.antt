-- Which jobs a queue has, and the jobs that a Put bears.
use Rattle.cta_model.specs.Mounts.{claimer_of, same_direction, has_job, job_of}
use Rattle.cta_model.specs.Queues.{direction_of, is_queued, queue_of}
use Rattle.std.specs.Prelude.{is_none, ℕ, zero, suc, ◌≡◌, List, [], ◌∷◌, ◌++◌, Bool, ◌&&◌, option_map}
use Rattle.cta_site.specs.declared.site.Site.{Site}
use Rattle.cta_model.specs.declared.asks.Job.{Job}
use Rattle.cta_model.specs.declared.asks.Direction.{Direction}
use Rattle.cta_site.specs.Lookups.{class_of, pool_of}
use Rattle.cta_model.specs.History.{History, is_number}
use Rattle.cta_model.specs.Jobs.{is_live_job}
use Rattle.cta_model.specs.Legal.{IsLegal}
use Rattle.cta_model.specs.declared.asks.Direction.TheVariants as direction
use Rattle.part_model.specs.Order.{InOrder}

-- a list has in order the jobs that are in the queue of a key; in a legal history there is one such list
pub record IsQueue (site : Site) (h : History) (way : Direction) (key : ℕ) (q : List Job) : Type 0 where
  pub in_order : InOrder q
  pub members : (j : Job) → has_job j q ≡ is_queued site h way key j

-- in a legal history the queue of a key is in order and has each job that is queued there
abbrev pub QueueIsSorted : Type 0
QueueIsSorted =
    (site : Site) (h : History) → IsLegal site h → (way : Direction) (key : ℕ) → IsQueue site h way key (queue_of site h way key)

-- the archive jobs of a Put of this number: one for each copy from 1 to n
abbrev pub put_jobs : ℕ → ℕ → List Job
put_jobs n zero = []
put_jobs n (suc c) = put_jobs n c ++ job_of n n (suc c) ∷ []

-- whether the job's copy of a file of this path goes to the pool
abbrev pub is_of_pool : Site → List ℕ → ℕ → Job → Bool
is_of_pool site path key j = is_number key (option_map (λ class. pool_of site class j.copy) (class_of site path))

-- whether a recall is queued, under whatever key
abbrev pub waits_in_queue : Site → History → Job → Bool
waits_in_queue site h j = is_live_job site h j && (same_direction direction.Retrieve (direction_of j) && is_none (claimer_of h j))

-- each of these jobs was born by the entry of this number
abbrev pub AreBornBy : ℕ → List Job → Type 0
AreBornBy n [] = Unit {0}
AreBornBy n (j ∷ js) = (j.birth ≡ n) × AreBornBy n js
