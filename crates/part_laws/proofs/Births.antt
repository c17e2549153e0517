-- New jobs come last in their queues, and no mount claims them yet.
use Rattle.std.proofs.Common.{◌≡◌, ◌∙◌, ℕ, ◌+◌, ◌<◌, ◌≤◌, inl, inr, List, [], ◌∷◌, ◌++◌, Bool, true, false, ◌&&◌, ◌||◌, not, refl, sym, ap, arith, length}
use Rattle.std.specs.Prelude.{Option, Some, None, if◌then◌else◌, ◌==◌, filter}
use Rattle.cta_site.specs.declared.site.Site.{Site}
use Rattle.cta_model.specs.declared.entries.Entry.{Entry}
use Rattle.cta_model.specs.declared.asks.Ask.{Ask}
use Rattle.cta_model.specs.declared.answers.Answer.{Answer}
use Rattle.cta_model.specs.declared.asks.Direction.{Direction}
use Rattle.cta_model.specs.declared.asks.Item.{Item}
use Rattle.cta_model.specs.declared.asks.Job.{Job}
use Rattle.cta_model.specs.History.{History}
use Rattle.cta_model.specs.Mounts.{claimed_items, claimed_after, claimer_of, without_jobs, has_job, item_jobs, same_job}
use Rattle.cta_model.specs.Jobs.{jobs_born}
use Rattle.cta_model.specs.Queues.{queue_of, is_queued}
use Rattle.cta_model.specs.Answers.{answer_of}
use Rattle.cta_model.specs.Legal.{IsLegal}
use Rattle.cta_laws.proofs.Tests.{bool_cases}
use Rattle.cta_laws.proofs.Claims.{AllOf, OfJob, all_append, all_filter, all_mono, claim_all}
use Rattle.cta_laws.proofs.EndLaw.{job_among}
use Rattle.cta_laws.proofs.StandLaw.{claimer_is_open}
use Rattle.cta_model.specs.declared.asks.Ask.TheVariants as ask
use Rattle.cta_model.specs.declared.answers.Answer.TheVariants as answer
use Rattle.part_laws.proofs.Born.{born_low}
use Rattle.part_model.specs.Order.{InOrder, goes_before}
use Rattle.part_laws.proofs.Orders.{between, has_filter, order_append, order_filter}
use Rattle.part_laws.proofs.Members.{queue_is, queue_members, queue_order}

-- ---- what is claimed was born before

abbrev BornBy : ℕ → Job → Type 0
BornBy n j = j.birth ≤ n

pub queue_low : (site : Site) (h : History) (way : Direction) (key : ℕ) → AllOf (BornBy (length h)) (queue_of site h way key)
queue_low site h way key = all_filter (BornBy (length h)) (is_queued site h way key) (jobs_born site h) (born_low site h)

if_low : (n : ℕ) (b : Bool) (js : List Job) (xs : List Item) → AllOf (OfJob (BornBy n)) xs → AllOf (OfJob (BornBy n)) (if b then without_jobs js xs else xs)
if_low n true js xs all = all_filter (OfJob (BornBy n)) (λ (i : Item). not (has_job i.job js)) xs all
if_low n false js xs all = all

claimed_low_step : (site : Site) (h : History) (t : ℕ) (k : Ask) (a : Answer) (m : ℕ) (before : List Item) → a ≡ answer_of site h t k → AllOf (OfJob (BornBy (length h))) before → AllOf (OfJob (BornBy (length h))) (claimed_after k a m before)
claimed_low_step site h t (ask.Claim k) (answer.Batch items evicted) m before is all =
    elim (bool_cases (k == m))
    [ inl hit ↦ rw hit (all_append (OfJob (BornBy (length h))) before items.items all (claim_all (BornBy (length h)) site h t k items evicted is (queue_low site h))) | inr miss ↦ rw miss all ]
claimed_low_step site h t (ask.Flushed k items) a m before is all = if_low (length h) (k == m) (item_jobs items.items) before all
claimed_low_step site h t (ask.Recalled k job) a m before is all = if_low (length h) (k == m) (job ∷ []) before all
claimed_low_step site h t (ask.Failed k f charged returned) a m before is all = if_low (length h) (k == m) (charged.items ++ returned.items) before all
claimed_low_step site h t _ a m before is all = all

claimed_low : (site : Site) (h : History) → IsLegal site h → (m : ℕ) → AllOf (OfJob (BornBy (length h))) (claimed_items h m)
claimed_low site [] legal m = tt
claimed_low site (e ∷ h) legal m =
    all_mono (OfJob (BornBy (length h))) (OfJob (BornBy (length (e ∷ h)))) (claimed_items (e ∷ h) m) (λ i low. (let x : i.job.birth ≤ length h = low in omega arith))
    (claimed_low_step site h e.at e.ask e.answer m (claimed_items h m) legal.1.answered (claimed_low site h legal.0 m))

pub new_unclaimed : (site : Site) (h : History) → IsLegal site h → (j : Job) → length h < j.birth → claimer_of h j ≡ None
new_unclaimed site h legal j high = by (claimer_of h j) refl
  where
    by : (o : Option ℕ) → claimer_of h j ≡ o → claimer_of h j ≡ None
    by None is = is
    by (Some m) is =
        (let low : j.birth ≤ length h = job_among (BornBy (length h)) (claimed_items h m) (claimed_low site h legal m) j (claimer_is_open h j m is).1 in
        absurd (omega arith))

-- ---- new jobs come last

pub has_both : (j : Job) (xs ys : List Job) → has_job j (xs ++ ys) ≡ (has_job j xs || has_job j ys)
has_both j [] ys = refl
has_both j (x ∷ xs) ys = rw (has_both j xs ys) (regroup (same_job j x) (has_job j xs) (has_job j ys))
  where
    regroup : (a b c : Bool) → (a || (b || c)) ≡ ((a || b) || c)
    regroup true b c = refl
    regroup false b c = refl

births_apart : (x y : Job) (n : ℕ) → x.birth ≤ n → y.birth ≡ n + 1 → goes_before x y ≡ true
births_apart x y n p q = grind arith

-- of the queue those stay that pass the test, and the new jobs, born by the newest entry, come after them
pub queue_grows : (site : Site) (h : History) (e : Entry) (way : Direction) (key : ℕ) (keep : Job → Bool) (new : List Job) → IsLegal site (e ∷ h) → InOrder new → AllOf (λ (j : Job). j.birth ≡ length h + 1) new
    → ((j : Job) → is_queued site (e ∷ h) way key j ≡ ((is_queued site h way key j && keep j) || has_job j new))
    → queue_of site (e ∷ h) way key ≡ filter keep (queue_of site h way key) ++ new
queue_grows site h e way key keep new legal order births point =
    queue_is site (e ∷ h) legal way key (filter keep (queue_of site h way key) ++ new) (record {
      in_order = order_append (filter keep (queue_of site h way key)) new (order_filter keep (queue_of site h way key) (queue_order site h way key)) order
          (between (BornBy (length h)) (λ (j : Job). j.birth ≡ length h + 1) (filter keep (queue_of site h way key)) new (all_filter (BornBy (length h)) keep (queue_of site h way key) (queue_low site h way key)) births (λ x y p q. births_apart x y (length h) p q));
      members = λ j. has_both j (filter keep (queue_of site h way key)) new
          ∙ ap (λ (b : Bool). b || has_job j new) (has_filter keep j (queue_of site h way key) ∙ ap (λ (b : Bool). b && keep j) (queue_members site h legal.0 way key j))
          ∙ sym (point j);
    })

-- nothing leaves
pub queue_appends : (site : Site) (h : History) (e : Entry) (way : Direction) (key : ℕ) (new : List Job) → IsLegal site (e ∷ h) → InOrder new → AllOf (λ (j : Job). j.birth ≡ length h + 1) new
    → ((j : Job) → is_queued site (e ∷ h) way key j ≡ (is_queued site h way key j || has_job j new))
    → queue_of site (e ∷ h) way key ≡ queue_of site h way key ++ new
queue_appends site h e way key new legal order births point =
    queue_is site (e ∷ h) legal way key (queue_of site h way key ++ new) (record {
      in_order = order_append (queue_of site h way key) new (queue_order site h way key) order
          (between (BornBy (length h)) (λ (j : Job). j.birth ≡ length h + 1) (queue_of site h way key) new (queue_low site h way key) births (λ x y p q. births_apart x y (length h) p q));
      members = λ j. has_both j (queue_of site h way key) new ∙ ap (λ (b : Bool). b || has_job j new) (queue_members site h legal.0 way key j) ∙ sym (point j);
    })
