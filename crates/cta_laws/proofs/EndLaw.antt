-- A job that has ended is live no more: no Claim names it, and a Recalled of it is Stale.
use Rattle.std.proofs.Common.{◌≡◌, ℕ, zero, suc, ◌+◌, ◌≤◌, ◌⊎◌, inl, inr, List, [], ◌∷◌, ◌++◌, Bool, true, false, not, refl, sym, ◌∙◌, ap, subst, arith, length}
use Rattle.std.specs.Prelude.{Option, Some, None, IsSome, is_some, if◌then◌else◌}
use Rattle.std.proofs.lemmas.Bool.{eqb-true, and_parts}
use Rattle.cta_site.specs.declared.site.Site.{Site}
use Rattle.cta_model.specs.declared.entries.Entry.{Entry}
use Rattle.cta_model.specs.declared.asks.Ask.{Ask}
use Rattle.cta_model.specs.declared.asks.Ask.TheVariants as ask
use Rattle.cta_model.specs.declared.answers.Answer.{Answer}
use Rattle.cta_model.specs.declared.answers.Answer.TheVariants as answer
use Rattle.cta_model.specs.declared.answers.Refusal.TheVariants as refusal
use Rattle.cta_model.specs.declared.asks.Fate.TheVariants as fate
use Rattle.cta_model.specs.declared.asks.Direction.{Direction}
use Rattle.cta_model.specs.declared.asks.Job.{Job}
use Rattle.cta_model.specs.declared.asks.Item.{Item}
use Rattle.cta_model.specs.History.{History, is_number}
use Rattle.cta_model.specs.Mounts.{same_job, has_job, item_jobs, claim_names, job_of}
use Rattle.cta_model.specs.Jobs.{archive_birth, archive_after, bears_archive, ends_archive, live_birth, is_live_job, jobs_born, job_end, end_after}
use Rattle.cta_model.specs.Queues.{queue_of, is_queued}
use Rattle.cta_model.specs.Answers.{refuse, answer_of, is_accepted, is_known}
use Rattle.cta_laws.specs.Jobs.{EndsForGood, NoClaimAfterEnd}
use Rattle.cta_laws.specs.Recalls.{StaleAfterEnd}
use Rattle.cta_laws.proofs.Tests.{bool_cases, not_next}
use Rattle.cta_laws.proofs.OnceLaw.{stays_ended, born_before, same_job_eq}
use Rattle.cta_laws.proofs.Claims.{AllOf, OfJob, all_mono, all_pass, claim_all}

-- ---- archive jobs

pub archive_ended : (site : Site) (h : History) (e : Entry) (f c b : ℕ) → b ≤ length h → (o : Option ℕ) → is_number b o ≡ false → is_number b (archive_after site h e f c o) ≡ false
archive_ended site h e f c b low None d =
    elim (bears_archive site h e.ask e.answer f c) as (λ t. is_number b (if t then Some (length h + 1) else None) ≡ false)
    [ true ↦ not_next b (length h) low | false ↦ refl ]
archive_ended site h e f c b low (Some birth) d =
    elim (ends_archive site h e.ask e.answer (job_of birth f c)) as (λ t. is_number b (if t then None else Some birth) ≡ false)
    [ true ↦ refl | false ↦ d ]

pub archive_before : (site : Site) (h : History) (f c b : ℕ) → is_number b (archive_birth site h f c) ≡ true → b ≤ length h
archive_before site [] f c b y = absurd (cc)
archive_before site (e ∷ h) f c b y = (let low : b ≤ length h + 1 = after (archive_birth site h f c) (λ z. archive_before site h f c b z) y in omega arith)
  where
    after : (o : Option ℕ) → (is_number b o ≡ true → b ≤ length h) → is_number b (archive_after site h e f c o) ≡ true → b ≤ length h + 1
    after None before =
        elim (bears_archive site h e.ask e.answer f c) as (λ t. is_number b (if t then Some (length h + 1) else None) ≡ true → b ≤ length h + 1)
        [ true ↦ λ z. (let x : b ≡ length h + 1 = eqb-true b (length h + 1) z in omega arith) | false ↦ λ z. absurd (cc) ]
    after (Some birth) before =
        elim (ends_archive site h e.ask e.answer (job_of birth f c)) as (λ t. is_number b (if t then None else Some birth) ≡ true → b ≤ length h + 1)
        [ true ↦ λ z. absurd (cc) | false ↦ λ z. (let x : b ≤ length h = before z in omega arith) ]

-- ---- all jobs

pub birth_ended : (site : Site) (h : History) (e : Entry) (f c b : ℕ) → b ≤ length h → is_number b (live_birth site h f c) ≡ false → is_number b (live_birth site (e ∷ h) f c) ≡ false
birth_ended site h e f zero b low d = stays_ended site h e f b low d
birth_ended site h e f (suc c) b low d = archive_ended site h e f (suc c) b low (archive_birth site h f (suc c)) d

pub birth_before : (site : Site) (h : History) (f c b : ℕ) → is_number b (live_birth site h f c) ≡ true → b ≤ length h
birth_before site h f zero b y = born_before site h f b y
birth_before site h f (suc c) b y = archive_before site h f (suc c) b y

-- what lives was born before
pub live_before : (site : Site) (h : History) (j : Job) → is_live_job site h j ≡ true → j.birth ≤ length h
live_before site h j y = birth_before site h j.file j.copy j.birth y

-- a job of an older entry that is not live never lives again
pub job_stays_ended : (site : Site) (h : History) (e : Entry) (j : Job) → j.birth ≤ length h → is_live_job site h j ≡ false → is_live_job site (e ∷ h) j ≡ false
job_stays_ended site h e j low d = birth_ended site h e j.file j.copy j.birth low d

pub job_stays_ended_long : (site : Site) (newer h : History) (j : Job) → j.birth ≤ length h → is_live_job site h j ≡ false → (j.birth ≤ length (newer ++ h)) × (is_live_job site (newer ++ h) j ≡ false)
job_stays_ended_long site [] h j low d = (low, d)
job_stays_ended_long site (e ∷ newer) h j low d =
    let older : (j.birth ≤ length (newer ++ h)) × (is_live_job site (newer ++ h) j ≡ false) = job_stays_ended_long site newer h j low d in
    let less : j.birth ≤ length (newer ++ h) = older.0 in
    (omega arith, job_stays_ended site (newer ++ h) e j older.0 older.1)

pub ended_now : (was is : Bool) (n : ℕ) (o : Option ℕ) → is_some (end_after was is n o) ≡ true → (is_some o ≡ true) ⊎ ((was ≡ true) × (is ≡ false))
ended_now was is n (Some m) e = inl refl
ended_now true false n None e = inr (refl, refl)
ended_now true true n None e = absurd (cc)
ended_now false is n None e = absurd (cc)

-- a job that has ended was born before, and is not live
pub has_ended : (site : Site) (h : History) (j : Job) → IsSome (job_end site h j) → (j.birth ≤ length h) × (is_live_job site h j ≡ false)
has_ended site [] j e = absurd (cc)
has_ended site (x ∷ h) j e =
    elim (ended_now (is_live_job site h j) (is_live_job site (x ∷ h) j) (length h + 1) (job_end site h j) e) [
      | inl old ↦
          (let was : (j.birth ≤ length h) × (is_live_job site h j ≡ false) = has_ended site h j old in
          let low : j.birth ≤ length h = was.0 in
          (omega arith, job_stays_ended site h x j was.0 was.1))
      | inr now ↦ (let low : j.birth ≤ length h = live_before site h j now.0 in (omega arith, now.1))
    ]

pub ends_for_good : EndsForGood
ends_for_good site newer h legal j e =
    let was : (j.birth ≤ length h) × (is_live_job site h j ≡ false) = has_ended site h j e in
    (job_stays_ended_long site newer h j was.0 was.1).1

-- ---- a Claim names live jobs

pub IsLive : Site → History → Job → Type 0
IsLive site h j = is_live_job site h j ≡ true

pub queue_live : (site : Site) (h : History) (way : Direction) (key : ℕ) → AllOf (IsLive site h) (queue_of site h way key)
unfolding IsLive
queue_live site h way key = all_mono (λ j. is_queued site h way key j ≡ true) (IsLive site h) (queue_of site h way key) (λ j on. (and_parts (is_live_job site h j) _ on).0) (all_pass (is_queued site h way key) (jobs_born site h))

-- what holds of each item's job holds of a job among them
pub job_among : (P : Job → Type 0) (items : List Item) → AllOf (OfJob P) items → (j : Job) → has_job j (item_jobs items) ≡ true → P j
job_among P [] all j e = absurd (cc)
job_among P (i ∷ items) all j e =
    elim (bool_cases (same_job j i.job))
    [ inl hit ↦ subst P (sym (same_job_eq j i.job hit)) all.0 | inr miss ↦ job_among P items all.1 j (rw miss at e) ]

pub claim_live : (site : Site) (h : History) (t : ℕ) (k : Ask) (a : Answer) (j : Job) → a ≡ answer_of site h t k → claim_names k a j ≡ true → is_live_job site h j ≡ true
unfolding IsLive
claim_live site h t (ask.Claim m) (answer.Batch items evicted) j is e = job_among (IsLive site h) items.items (claim_all (IsLive site h) site h t m items evicted is (queue_live site h)) j e
claim_live site h t _ a j is e = absurd (cc)

pub not_true : (a b : Bool) → (a ≡ true → b ≡ true) → b ≡ false → a ≡ false
not_true true b h e = (let bad : b ≡ true = h refl in absurd (cc))
not_true false b h e = refl

pub no_claim_after_end : NoClaimAfterEnd
no_claim_after_end site newer h e legal j end =
    not_true (claim_names e.ask e.answer j) (is_live_job site (newer ++ h) j) (λ y. claim_live site (newer ++ h) e.at e.ask e.answer j legal.1.answered y) (ends_for_good site newer h legal.0 j end)

pub stale_by : (live t : Bool) (a : Answer) → live ≡ false → a ≡ refuse refusal.Unknown t (answer.Arrived (if live then fate.Done else fate.Stale)) → is_accepted a ≡ true → a ≡ answer.Arrived fate.Stale
stale_by true t a d e y = absurd (cc)
stale_by false true a d e y = absurd (cc)
stale_by false false a d e y = e

pub stale_after_end : StaleAfterEnd
stale_after_end site newer h e legal m j end is =
    let answered : e.answer ≡ answer_of site (newer ++ h) e.at (ask.Recalled m j) = legal.1.answered ∙ ap (answer_of site (newer ++ h) e.at) is in
    stale_by (is_live_job site (newer ++ h) j) (not (is_known (newer ++ h) m (j ∷ []))) e.answer (ends_for_good site newer h legal.0 j end) answered legal.1.accepted
