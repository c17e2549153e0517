-- A queue is the one list in order of the jobs that are queued.
use Rattle.std.proofs.Common.{◌≡◌, ◌∙◌, ℕ, inl, inr, List, [], ◌∷◌, Bool, true, false, ◌&&◌, refl, sym, ap, arith, is_none}
use Rattle.cta_site.specs.declared.site.Site.{Site}
use Rattle.cta_model.specs.declared.asks.Job.{Job}
use Rattle.cta_model.specs.declared.asks.Direction.{Direction}
use Rattle.cta_model.specs.History.{History, is_number}
use Rattle.cta_model.specs.Mounts.{same_job, has_job, same_direction, claimer_of}
use Rattle.cta_model.specs.Jobs.{jobs_born, is_live_job}
use Rattle.cta_model.specs.Queues.{queue_of, is_queued, direction_of, key_of}
use Rattle.cta_model.specs.Legal.{IsLegal}
use Rattle.cta_laws.specs.Jobs.{count_job}
use Rattle.cta_laws.proofs.Tests.{bool_cases}
use Rattle.cta_laws.proofs.StandLaw.{born_once}
use Rattle.part_laws.specs.Queued.{IsQueue, QueueIsSorted}
use Rattle.part_laws.proofs.Orders.{has_filter, one_order, order_filter}
use Rattle.part_model.specs.Order.{InOrder}
use Rattle.part_laws.proofs.Born.{born_order}

none_counted : (j : Job) (xs : List Job) → has_job j xs ≡ false → count_job j xs ≡ 0
none_counted j [] d = refl
none_counted j (x ∷ xs) d =
    elim (bool_cases (same_job j x))
    [ inl hit ↦ (let bad : true ≡ false = rw hit at d in absurd (cc)) | inr miss ↦ rw miss (rw (none_counted j xs (rw miss at d)) refl) ]

pub counted_has : (j : Job) (xs : List Job) → count_job j xs ≡ 1 → has_job j xs ≡ true
counted_has j xs one =
    elim (bool_cases (has_job j xs)) [ inl hit ↦ hit | inr miss ↦ (let none : count_job j xs ≡ 0 = none_counted j xs miss in absurd (omega arith)) ]

born_live_or : (site : Site) (h : History) → IsLegal site h → (j : Job) → (has_job j (jobs_born site h) && is_live_job site h j) ≡ is_live_job site h j
born_live_or site h legal j =
    elim (bool_cases (is_live_job site h j)) [
      | inl live ↦ rw live (rw (counted_has j (jobs_born site h) (born_once site h legal j live)) refl)
      | inr d ↦ rw d (none (has_job j (jobs_born site h)))
    ]
  where
    none : (b : Bool) → (b && false) ≡ false
    none true = refl
    none false = refl

-- a queue has what is queued
pub queue_members : (site : Site) (h : History) → IsLegal site h → (way : Direction) (key : ℕ) (j : Job) → has_job j (queue_of site h way key) ≡ is_queued site h way key j
queue_members site h legal way key j =
    has_filter (is_queued site h way key) j (jobs_born site h)
    ∙ regroup (has_job j (jobs_born site h)) (is_live_job site h j) _
    ∙ ap (λ (b : Bool). b && (same_direction way (direction_of j) && (is_none (claimer_of h j) && is_number key (key_of site h j)))) (born_live_or site h legal j)
  where
    regroup : (a b c : Bool) → (a && (b && c)) ≡ ((a && b) && c)
    regroup true b c = refl
    regroup false b c = refl

pub queue_order : (site : Site) (h : History) (way : Direction) (key : ℕ) → InOrder (queue_of site h way key)
queue_order site h way key = order_filter (is_queued site h way key) (jobs_born site h) (born_order site h)

pub queue_is_sorted : QueueIsSorted
queue_is_sorted site h legal way key = record { in_order = queue_order site h way key; members = queue_members site h legal way key }

-- what has in order the jobs that are queued is the queue
pub queue_is : (site : Site) (h : History) → IsLegal site h → (way : Direction) (key : ℕ) (q : List Job) → IsQueue site h way key q → queue_of site h way key ≡ q
queue_is site h legal way key q is = one_order (queue_of site h way key) q (queue_order site h way key) is.in_order (λ j. queue_members site h legal way key j ∙ sym (is.members j))
