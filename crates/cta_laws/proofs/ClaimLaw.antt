-- At most one open mount claims a job.
use Rattle.std.proofs.Common.{◌≡◌, ℕ, ◌+◌, ◌⊎◌, inl, inr, List, [], ◌∷◌, ◌++◌, Bool, true, false, ◌||◌, not, refl, sym, ◌∙◌, subst, arith, length}
use Rattle.std.specs.Prelude.{is_none, if◌then◌else◌, ◌==◌, find}
use Rattle.std.proofs.lemmas.Bool.{and_parts, eqb-true}
use Rattle.cta_site.specs.declared.site.Site.{Site}
use Rattle.cta_model.specs.declared.entries.Entry.{Entry}
use Rattle.cta_model.specs.declared.asks.Ask.{Ask}
use Rattle.cta_model.specs.declared.asks.Ask.TheVariants as ask
use Rattle.cta_model.specs.declared.asks.Direction.{Direction}
use Rattle.cta_model.specs.declared.answers.Answer.{Answer}
use Rattle.cta_model.specs.declared.answers.Answer.TheVariants as answer
use Rattle.cta_model.specs.declared.asks.Item.{Item}
use Rattle.cta_model.specs.declared.asks.Job.{Job}
use Rattle.cta_model.specs.History.{History, has_number}
use Rattle.cta_model.specs.Mounts.{asked_mount, is_open, open_mounts, claimed_items, claimed_after, claimer_of, without_jobs, has_job, item_jobs, same_job, same_direction, claims, claim_names}
use Rattle.cta_model.specs.Jobs.{is_live_job, jobs_born}
use Rattle.cta_model.specs.Queues.{queue_of, is_queued, direction_of}
use Rattle.cta_model.specs.Answers.{answer_of}
use Rattle.cta_model.specs.Legal.{IsLegal}
use Rattle.cta_laws.specs.Jobs.{ClaimedOnce}
use Rattle.cta_laws.proofs.Tests.{bool_cases, or_left, or_right, or_cases}
use Rattle.cta_laws.proofs.Claims.{AllOf, all_mono, all_pass, claim_all, claim_is_open}
use Rattle.cta_laws.proofs.EndLaw.{job_among}
use Rattle.cta_laws.proofs.LengthLaw.{claimed_new}
use Rattle.cta_laws.proofs.MountLaw.{opened}

-- ---- claims after one more entry

pub has_append : (j : Job) (xs ys : List Item) → has_job j (item_jobs (xs ++ ys)) ≡ true → (has_job j (item_jobs xs) ≡ true) ⊎ (has_job j (item_jobs ys) ≡ true)
has_append j [] ys e = inr e
has_append j (x ∷ xs) ys e =
    elim (or_cases (same_job j x.job) (has_job j (item_jobs (xs ++ ys))) e) [
      | inl a ↦ inl (or_left (same_job j x.job) _ a)
      | inr b ↦ elim (has_append j xs ys b) [ inl c ↦ inl (or_right (same_job j x.job) _ c) | inr c ↦ inr c ]
    ]

pub has_without : (j : Job) (js : List Job) (xs : List Item) → has_job j (item_jobs (without_jobs js xs)) ≡ true → has_job j (item_jobs xs) ≡ true
has_without j js [] = λ e. e
has_without j js (x ∷ xs) =
    elim (not (has_job x.job js)) as (λ b. has_job j (item_jobs (if b then x ∷ without_jobs js xs else without_jobs js xs)) ≡ true → (same_job j x.job || has_job j (item_jobs xs)) ≡ true) [
      | true ↦ λ e. elim (or_cases (same_job j x.job) (has_job j (item_jobs (without_jobs js xs))) e) [ inl a ↦ or_left (same_job j x.job) _ a | inr b ↦ or_right (same_job j x.job) _ (has_without j js xs b) ]
      | false ↦ λ e. or_right (same_job j x.job) _ (has_without j js xs e)
    ]

pub if_without : (b : Bool) (j : Job) (js : List Job) (xs : List Item) → has_job j (item_jobs (if b then without_jobs js xs else xs)) ≡ true → has_job j (item_jobs xs) ≡ true
if_without true j js xs e = has_without j js xs e
if_without false j js xs e = e

-- what a mount claims after an entry it claimed before, or the entry is its Claim and names it
pub claim_cases : (k : Ask) (a : Answer) (m : ℕ) (before : List Item) (j : Job) → has_job j (item_jobs (claimed_after k a m before)) ≡ true → (has_job j (item_jobs before) ≡ true) ⊎ ((claim_names k a j ≡ true) × (asked_mount k ≡ m))
claim_cases (ask.Claim k) (answer.Batch items evicted) m before j =
    elim (bool_cases (k == m)) [
      | inl hit ↦ λ e. elim (has_append j before items.items (rw hit at e)) [ inl a ↦ inl a | inr b ↦ inr (b, eqb-true k m hit) ]
      | inr miss ↦ λ e. inl (rw miss at e)
    ]
claim_cases (ask.Flushed k items) a m before j = λ e. inl (if_without (k == m) j (item_jobs items.items) before e)
claim_cases (ask.Recalled k job) a m before j = λ e. inl (if_without (k == m) j (job ∷ []) before e)
claim_cases (ask.Failed k f charged returned) a m before j = λ e. inl (if_without (k == m) j (charged.items ++ returned.items) before e)
claim_cases _ a m before j = λ e. inl e

-- ---- a Claim names jobs that no mount claims

abbrev pub IsUnclaimed : History → Job → Type 0
IsUnclaimed h j = is_none (claimer_of h j) ≡ true

pub queued_unclaimed : (site : Site) (h : History) (way : Direction) (key : ℕ) (j : Job) → is_queued site h way key j ≡ true → IsUnclaimed h j
queued_unclaimed site h way key j e = (and_parts (is_none (claimer_of h j)) _ (and_parts (same_direction way (direction_of j)) _ (and_parts (is_live_job site h j) _ e).1).1).0

pub queue_unclaimed : (site : Site) (h : History) (way : Direction) (key : ℕ) → AllOf (IsUnclaimed h) (queue_of site h way key)
queue_unclaimed site h way key = all_mono (λ j. is_queued site h way key j ≡ true) (IsUnclaimed h) (queue_of site h way key) (λ j e. queued_unclaimed site h way key j e) (all_pass (is_queued site h way key) (jobs_born site h))

pub names_unclaimed : (site : Site) (h : History) (t : ℕ) (k : Ask) (a : Answer) (j : Job) → a ≡ answer_of site h t k → claim_names k a j ≡ true → IsUnclaimed h j × (is_open h (asked_mount k) ≡ true)
names_unclaimed site h t (ask.Claim m) (answer.Batch items evicted) j is e =
    (job_among (IsUnclaimed h) items.items (claim_all (IsUnclaimed h) site h t m items evicted is (queue_unclaimed site h)) j e, claim_is_open site h t m items evicted is)
names_unclaimed site h t _ a j is e = absurd (cc)

pub found_none : (test : ℕ → Bool) (ms : List ℕ) (m : ℕ) → is_none (find test ms) ≡ true → has_number m ms ≡ true → test m ≡ true → ⊥
found_none test [] m none there e = absurd (cc)
found_none test (k ∷ ms) m none there e =
    elim (bool_cases (test k)) [
      | inl hit ↦ (let bad : false ≡ true = rw hit at none in absurd (cc))
      | inr miss ↦
          elim (or_cases (m == k) (has_number m ms) there) [
            | inl same ↦ (let bad : test k ≡ true = subst (λ (x : ℕ). test x ≡ true) (eqb-true m k same) e in absurd (cc))
            | inr rest ↦ found_none test ms m (rw miss at none) rest e
          ]
    ]

pub unclaimed_by : (h : History) (j : Job) (m : ℕ) → IsUnclaimed h j → is_open h m ≡ true → claims h m j ≡ true → ⊥
unclaimed_by h j m none op e = found_none (λ k. has_job j (item_jobs (claimed_items h k))) (open_mounts h) m none op e

-- ---- the law

-- a mount that is open and claims the job before the entry, or whose Claim the entry is
pub Claimer : History → Entry → ℕ → Job → Type 0
Claimer h e m j = ((is_open h m ≡ true) × (claims h m j ≡ true)) ⊎ ((claim_names e.ask e.answer j ≡ true) × (asked_mount e.ask ≡ m))

pub claimer_before : (site : Site) (h : History) (e : Entry) (m : ℕ) (j : Job) → IsLegal site (e ∷ h) → is_open (e ∷ h) m ≡ true → claims (e ∷ h) m j ≡ true → Claimer h e m j
unfolding Claimer
claimer_before site h e m j legal op c =
    elim (claim_cases e.ask e.answer m (claimed_items h m) j c) [
      | inl old ↦
          elim (opened site h e m e.ask e.answer refl refl legal.1 op) [
            | inl was ↦ inl (was, old)
            | inr new ↦
                (let number : m ≡ length h + 1 = new.0 in
                let nothing : claimed_items h m ≡ [] = claimed_new site h legal.0 m (omega arith) in
                let bad : false ≡ true = rw nothing at old in
                absurd (cc))
          ]
      | inr new ↦ inr new
    ]

pub claimed_once : ClaimedOnce
unfolding Claimer
claimed_once site [] legal j m n om cm on cn = absurd (cc)
claimed_once site (e ∷ h) legal j m n om cm on cn =
    elim (claimer_before site h e m j legal om cm) [
      | inl oldm ↦
          elim (claimer_before site h e n j legal on cn) [
            | inl oldn ↦ claimed_once site h legal.0 j m n oldm.0 oldm.1 oldn.0 oldn.1
            | inr newn ↦ absurd (unclaimed_by h j m (names_unclaimed site h e.at e.ask e.answer j legal.1.answered newn.0).0 oldm.0 oldm.1)
          ]
      | inr newm ↦
          elim (claimer_before site h e n j legal on cn) [
            | inl oldn ↦ absurd (unclaimed_by h j n (names_unclaimed site h e.at e.ask e.answer j legal.1.answered newm.0).0 oldn.0 oldn.1)
            | inr newn ↦ sym newm.1 ∙ newn.1
          ]
    ]
