-- How a queue changes where what is queued changes: some leave, and others enter at their places.
use Rattle.std.proofs.Common.{◌≡◌, ◌∙◌, ℕ, List, [], ◌∷◌, Bool, true, false, ◌&&◌, ◌||◌, refl, sym, ap, arith}
use Rattle.std.specs.Prelude.{filter}
use Rattle.cta_site.specs.declared.site.Site.{Site}
use Rattle.cta_model.specs.declared.asks.Job.{Job}
use Rattle.cta_model.specs.declared.asks.Direction.{Direction}
use Rattle.cta_model.specs.History.{History}
use Rattle.cta_model.specs.Mounts.{same_job, has_job}
use Rattle.cta_model.specs.Queues.{queue_of, is_queued}
use Rattle.cta_model.specs.Answers.{names_twice}
use Rattle.cta_model.specs.Legal.{IsLegal}
use Rattle.part_model.specs.Order.{InOrder, insert_jobs}
use Rattle.part_laws.proofs.Orders.{has_filter, has_insert, not_either, order_filter, order_insert}
use Rattle.part_laws.proofs.Members.{queue_is, queue_members, queue_order}

pub has_inserted : (i : Job) (js q : List Job) → has_job i (insert_jobs js q) ≡ (has_job i js || has_job i q)
has_inserted i [] q = refl
has_inserted i (j ∷ js) q = has_insert i j (insert_jobs js q) ∙ ap (λ (b : Bool). same_job i j || b) (has_inserted i js q) ∙ regroup (same_job i j) (has_job i js) (has_job i q)
  where
    regroup : (a b c : Bool) → (a || (b || c)) ≡ ((a || b) || c)
    regroup true b c = refl
    regroup false b c = refl

pub order_inserted : (js q : List Job) → InOrder q → names_twice js ≡ false → ((j : Job) → has_job j js ≡ true → has_job j q ≡ false) → InOrder (insert_jobs js q)
order_inserted [] q o once new = o
order_inserted (j ∷ js) q o once new =
    (let parts : (has_job j js ≡ false) × (names_twice js ≡ false) = not_either (has_job j js) (names_twice js) once in
    order_insert j (insert_jobs js q) (order_inserted js q o parts.1 (λ i there. new i (rw there (or_true (same_job i j)))))
    (has_inserted j js q ∙ rw (parts.0, new j (rw (self j) refl)) refl))
  where
    or_true : (b : Bool) → (b || true) ≡ true
    or_true true = refl
    or_true false = refl

    self : (i : Job) → same_job i i ≡ true
    self i = grind arith

-- of the queue of h those stay that pass the test, and these enter: so it is where that is so of each job
pub queue_moves : (site : Site) (h g : History) (way : Direction) (key : ℕ) (keep : Job → Bool) (new : List Job) → IsLegal site h → IsLegal site g → names_twice new ≡ false
    → ((j : Job) → has_job j new ≡ true → (is_queued site h way key j && keep j) ≡ false)
    → ((j : Job) → is_queued site g way key j ≡ (has_job j new || (is_queued site h way key j && keep j)))
    → queue_of site g way key ≡ insert_jobs new (filter keep (queue_of site h way key))
queue_moves site h g way key keep new before after once apart point =
    queue_is site g after way key (insert_jobs new (filter keep (queue_of site h way key))) (record {
      in_order = order_inserted new (filter keep (queue_of site h way key)) (order_filter keep (queue_of site h way key) (queue_order site h way key)) once (λ j there. kept j ∙ apart j there);
      members = λ j. has_inserted j new (filter keep (queue_of site h way key)) ∙ ap (λ (b : Bool). has_job j new || b) (kept j) ∙ sym (point j);
    })
  where
    kept : (j : Job) → has_job j (filter keep (queue_of site h way key)) ≡ (is_queued site h way key j && keep j)
    kept j = has_filter keep j (queue_of site h way key) ∙ ap (λ (b : Bool). b && keep j) (queue_members site h before way key j)

-- nothing enters
pub queue_leaves : (site : Site) (h g : History) (way : Direction) (key : ℕ) (keep : Job → Bool) → IsLegal site h → IsLegal site g
    → ((j : Job) → is_queued site g way key j ≡ (is_queued site h way key j && keep j)) → queue_of site g way key ≡ filter keep (queue_of site h way key)
queue_leaves site h g way key keep before after point = queue_moves site h g way key keep [] before after refl (λ j there. absurd (cc)) point

-- the same are queued
pub queue_stays : (site : Site) (h g : History) (way : Direction) (key : ℕ) → IsLegal site h → IsLegal site g
    → ((j : Job) → is_queued site g way key j ≡ is_queued site h way key j) → queue_of site g way key ≡ queue_of site h way key
queue_stays site h g way key before after point =
    queue_is site g after way key (queue_of site h way key) (record { in_order = queue_order site h way key; members = λ j. queue_members site h before way key j ∙ sym (point j) })

-- nothing leaves
pub queue_enters : (site : Site) (h g : History) (way : Direction) (key : ℕ) (new : List Job) → IsLegal site h → IsLegal site g → names_twice new ≡ false
    → ((j : Job) → has_job j new ≡ true → is_queued site h way key j ≡ false)
    → ((j : Job) → is_queued site g way key j ≡ (has_job j new || is_queued site h way key j))
    → queue_of site g way key ≡ insert_jobs new (queue_of site h way key)
queue_enters site h g way key new before after once apart point =
    queue_is site g after way key (insert_jobs new (queue_of site h way key)) (record {
      in_order = order_inserted new (queue_of site h way key) (queue_order site h way key) once (λ j there. queue_members site h before way key j ∙ apart j there);
      members = λ j. has_inserted j new (queue_of site h way key) ∙ ap (λ (b : Bool). has_job j new || b) (queue_members site h before way key j) ∙ sym (point j);
    })
