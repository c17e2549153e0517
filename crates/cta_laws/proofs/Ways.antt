-- What a mount claims goes its way.
use Rattle.std.proofs.Common.{◌≡◌, ℕ, zero, suc, ◌≤◌, inl, inr, List, [], ◌∷◌, ◌++◌, Bool, true, false, not, refl, sym, ◌∙◌, ap, subst, arith, length}
use Rattle.std.specs.Prelude.{Option, Some, None, if◌then◌else◌, ◌==◌}
use Rattle.std.proofs.lemmas.Bool.{and_parts, eqb-true, cases_lt}
use Rattle.cta_site.specs.declared.site.Site.{Site}
use Rattle.cta_site.specs.Listed.{Listed}
use Rattle.cta_model.specs.declared.asks.Ask.{Ask}
use Rattle.cta_model.specs.declared.asks.Direction.{Direction}
use Rattle.cta_model.specs.declared.answers.Answer.{Answer}
use Rattle.cta_model.specs.declared.asks.Item.{Item}
use Rattle.cta_model.specs.declared.asks.Job.{Job}
use Rattle.cta_model.specs.declared.states.Mount.{Mount}
use Rattle.cta_model.specs.History.{History, moment_of}
use Rattle.cta_model.specs.Mounts.{mount_of, is_mount, is_open, claimed_items, claimed_after, without_jobs, item_jobs, has_job, same_direction, claims}
use Rattle.cta_model.specs.Jobs.{is_live_job, jobs_born}
use Rattle.cta_model.specs.Queues.{queue_of, is_queued, direction_of, way_by}
use Rattle.cta_model.specs.Batches.{batch_of}
use Rattle.cta_model.specs.Answers.{answer_of, is_known, claims_all}
use Rattle.cta_model.specs.Legal.{IsLegal, IsMountOf}
use Rattle.cta_laws.proofs.Tests.{bool_cases}
use Rattle.cta_laws.proofs.OpenMounts.{mount_older}
use Rattle.cta_laws.proofs.Claims.{AllOf, all_append, all_filter, all_mono, all_pass, OfJob, batch_all, IsBatch, claim_is_batch}
use Rattle.cta_laws.proofs.EndLaw.{job_among}
use Rattle.cta_laws.proofs.LengthLaw.{claimed_new, nothing_claimed}
use Rattle.cta_laws.proofs.QuotaLaw.{same_way}
use Rattle.cta_model.specs.declared.asks.Ask.TheVariants as ask
use Rattle.cta_model.specs.declared.asks.Direction.TheVariants as direction
use Rattle.cta_model.specs.declared.answers.Answer.TheVariants as answer

abbrev pub goes_way : Direction → Job → Bool
goes_way way j = same_direction way (direction_of j)

-- the mount goes the way of the job
abbrev pub IsOfWay : Option Mount → Job → Type 0
IsOfWay o j = is_mount (λ (x : Mount). goes_way x.direction j) o ≡ true

pub queue_way : (site : Site) (h : History) (way : Direction) (key : ℕ) → AllOf (λ j. goes_way way j ≡ true) (queue_of site h way key)
queue_way site h way key =
    all_mono (λ j. is_queued site h way key j ≡ true) (λ j. goes_way way j ≡ true) (queue_of site h way key) (λ j e. (and_parts (same_direction way (direction_of j)) _ (and_parts (is_live_job site h j) _ e).1).0) (all_pass (is_queued site h way key) (jobs_born site h))

pub claim_way : (site : Site) (h : History) (t m : ℕ) (items : Listed Item) (evicted : Listed ℕ) → answer.Batch items evicted ≡ answer_of site h t (ask.Claim m) → AllOf (OfJob (IsOfWay (mount_of h m))) items.items
claim_way site h t m items evicted e =
    let is : IsBatch site h (moment_of h t) (mount_of h m) items.items = claim_is_batch site h t m items evicted e in
    let all : AllOf (OfJob (λ j. goes_way is.0.direction j ≡ true)) (batch_of site h (moment_of h t) is.0) = batch_all (λ j. goes_way is.0.direction j ≡ true) site h (moment_of h t) is.0.direction is.0.tape (λ key. queue_way site h is.0.direction key) in
    subst (λ (o : Option Mount). AllOf (OfJob (IsOfWay o)) items.items) (sym is.1) (subst (λ (xs : List Item). AllOf (OfJob (IsOfWay (Some is.0))) xs) (sym is.2) all)

pub if_way : (o : Option Mount) (b : Bool) (js : List Job) (xs : List Item) → AllOf (OfJob (IsOfWay o)) xs → AllOf (OfJob (IsOfWay o)) (if b then without_jobs js xs else xs)
if_way o true js xs all = all_filter (OfJob (IsOfWay o)) (λ (i : Item). not (has_job i.job js)) xs all
if_way o false js xs all = all

pub claimed_step : (site : Site) (h : History) (t : ℕ) (k : Ask) (a : Answer) (m : ℕ) (before : List Item) → a ≡ answer_of site h t k → AllOf (OfJob (IsOfWay (mount_of h m))) before → AllOf (OfJob (IsOfWay (mount_of h m))) (claimed_after k a m before)
claimed_step site h t (ask.Claim k) (answer.Batch items evicted) m before is all =
    elim (bool_cases (k == m)) [
      | inl hit ↦ rw hit (all_append (OfJob (IsOfWay (mount_of h m))) before items.items all (subst (λ (n : ℕ). AllOf (OfJob (IsOfWay (mount_of h n))) items.items) (eqb-true k m hit) (claim_way site h t k items evicted is)))
      | inr miss ↦ rw miss all
    ]
claimed_step site h t (ask.Flushed k items) a m before is all = if_way (mount_of h m) (k == m) (item_jobs items.items) before all
claimed_step site h t (ask.Recalled k job) a m before is all = if_way (mount_of h m) (k == m) (job ∷ []) before all
claimed_step site h t (ask.Failed k f charged returned) a m before is all = if_way (mount_of h m) (k == m) (charged.items ++ returned.items) before all
claimed_step site h t _ a m before is all = all

-- what a mount claims goes its way
pub claimed_way : (site : Site) (h : History) → IsLegal site h → (m : ℕ) → AllOf (OfJob (IsOfWay (mount_of h m))) (claimed_items h m)
claimed_way site [] legal m = tt
claimed_way site (e ∷ h) legal m =
    elim (cases_lt (length h) m) [
      | inl high ↦
          (let none : claimed_items (e ∷ h) m ≡ [] = nothing_claimed site h e.at m e.ask e.answer (claimed_items h m) legal.1.answered high (claimed_new site h legal.0 m high) in
          subst (λ (xs : List Item). AllOf (OfJob (IsOfWay (mount_of (e ∷ h) m))) xs) (sym none) tt)
      | inr low ↦ subst (λ (o : Option Mount). AllOf (OfJob (IsOfWay o)) (claimed_items (e ∷ h) m)) (sym (mount_older e h m low)) (claimed_step site h e.at e.ask e.answer m (claimed_items h m) legal.1.answered (claimed_way site h legal.0 m))
    ]

pub copy_zero : (c : ℕ) → same_direction direction.Retrieve (way_by c) ≡ true → c ≡ 0
copy_zero zero e = refl
copy_zero (suc c) e = absurd (cc)

pub copy_some : (c : ℕ) → same_direction direction.Archive (way_by c) ≡ true → 1 ≤ c
copy_some zero e = absurd (cc)
copy_some (suc c) e = omega arith

pub reads_zero : (o : Option Mount) (j : Job) → IsMountOf direction.Retrieve o → IsOfWay o j → j.copy ≡ 0
reads_zero None j way is = absurd way
reads_zero (Some x) j way is = copy_zero j.copy (subst (λ (d : Direction). same_direction d (way_by j.copy) ≡ true) way is)

pub writes_some : (o : Option Mount) (j : Job) → IsMountOf direction.Archive o → IsOfWay o j → 1 ≤ j.copy
writes_some None j way is = absurd way
writes_some (Some x) j way is = copy_some j.copy (subst (λ (d : Direction). same_direction d (way_by j.copy) ≡ true) way is)

-- a claimed job goes the way of its mount
pub known_way : (site : Site) (h : History) → IsLegal site h → (m : ℕ) (j : Job) → is_known h m (j ∷ []) ≡ true → IsOfWay (mount_of h m) j
known_way site h legal m j known =
    let there : has_job j (item_jobs (claimed_items h m)) ≡ true = (and_parts _ _ (and_parts (claims_all h m (j ∷ [])) _ (and_parts (is_open h m) _ known).1).0).0 in
    job_among (IsOfWay (mount_of h m)) (claimed_items h m) (claimed_way site h legal m) j there

-- what a mount claims goes its way
pub claims_way : (site : Site) (h : History) → IsLegal site h → (m : ℕ) (x : Mount) (j : Job) → mount_of h m ≡ Some x → claims h m j ≡ true → direction_of j ≡ x.direction
claims_way site h legal m x j mounted c = sym (same_way x.direction (direction_of j) (ap (is_mount (λ (y : Mount). goes_way y.direction j)) (sym mounted) ∙ job_among (IsOfWay (mount_of h m)) (claimed_items h m) (claimed_way site h legal m) j c))
