-- A job that a mount claims is of a file that was put.
use Rattle.std.proofs.Common.{◌≡◌, ℕ, ◌+◌, ◌≤◌, inl, inr, List, [], ◌∷◌, ◌++◌, Bool, true, false, not, refl, ap, ◌∙◌, arith, length}
use Rattle.std.specs.Prelude.{Option, Some, if◌then◌else◌, ◌==◌}
use Rattle.std.proofs.lemmas.Bool.{eqb-true}
use Rattle.blob.specs.declared.sum.Sum256.{Sum256}
use Rattle.cta_site.specs.Listed.{Listed}
use Rattle.cta_site.specs.declared.site.Site.{Site}
use Rattle.cta_model.specs.declared.entries.Entry.{Entry}
use Rattle.cta_model.specs.declared.asks.Ask.{Ask}
use Rattle.cta_model.specs.declared.asks.Ask.TheVariants as ask
use Rattle.cta_model.specs.declared.asks.Item.{Item}
use Rattle.cta_model.specs.declared.asks.Job.{Job}
use Rattle.cta_model.specs.declared.answers.Answer.{Answer}
use Rattle.cta_model.specs.declared.answers.Answer.TheVariants as answer
use Rattle.cta_model.specs.Answers.{answer_of}
use Rattle.cta_model.specs.Files.{path_of}
use Rattle.cta_model.specs.History.{History, entry_of}
use Rattle.cta_model.specs.Jobs.{is_live_job}
use Rattle.cta_model.specs.Legal.{IsLegal}
use Rattle.cta_model.specs.Mounts.{claimed_after, claimed_items, claims, has_job, item_jobs, same_job, without_jobs}
use Rattle.cta_laws.specs.Jobs.{HasPut, IsPutOf}
use Rattle.cta_laws.proofs.Tests.{bool_cases, or_left, or_right}
use Rattle.cta_laws.proofs.Claims.{AllOf, OfJob, all_append, all_filter, all_mono}
use Rattle.cta_laws.proofs.EndLaw.{claim_live, job_among}
use Rattle.cta_laws.proofs.JobLists.{job_self}
use Rattle.cta_laws.proofs.PutLaw.{job_file_has_put}
use Rattle.cta_laws.proofs.Sums.{entry_older}
use Rattle.archive_restore.specs.Contents.{put_sum, put_sum_by}

-- the job's file was put
abbrev pub IsPut : History → Job → Type 0
IsPut h j = (s : Sum256) × (put_sum_by (entry_of h j.file) ≡ Some s)

pub put_low : (h : History) (f : ℕ) (s : Sum256) → put_sum_by (entry_of h f) ≡ Some s → f ≤ length h
put_low [] f s is = absurd (cc)
put_low (e ∷ h) f s is =
    elim (bool_cases (f == length h + 1)) [
      | inl hit ↦ (let same : f ≡ length h + 1 = eqb-true f (length h + 1) hit in omega (arith, same))
      | inr miss ↦ (let low : f ≤ length h = put_low h f s (rw miss at is) in omega (arith, low))
    ]

put_older : (e : Entry) (h : History) (j : Job) → IsPut h j → IsPut (e ∷ h) j
put_older e h j p = (p.0, ap (λ (o : Option Entry). put_sum_by o) (entry_older e h j.file (put_low h j.file p.0 p.1)) ∙ p.1)

sum_put : (k : Ask) (path : List ℕ) → IsPutOf path k → (s : Sum256) × (put_sum k ≡ Some s)
sum_put (ask.Put who p sum) path is = (sum, refl)
sum_put _ path is = absurd is

live_put : (site : Site) (h : History) → IsLegal site h → (j : Job) → is_live_job site h j ≡ true → IsPut h j
live_put site h legal j live =
    let x : HasPut h j.file (path_of h j.file) = job_file_has_put site h legal j live in
    let s : (s : Sum256) × (put_sum x.0.ask ≡ Some s) = sum_put x.0.ask (path_of h j.file) x.2 in
    (s.0, ap (λ (o : Option Entry). put_sum_by o) x.1 ∙ s.1)

named : (items : List Item) → AllOf (λ (i : Item). has_job i.job (item_jobs items) ≡ true) items
named [] = tt
named (i ∷ items) = (
  or_left (same_job i.job i.job) (has_job i.job (item_jobs items)) (job_self i.job),
  all_mono (λ (k : Item). has_job k.job (item_jobs items) ≡ true) (λ (k : Item). has_job k.job (item_jobs (i ∷ items)) ≡ true) items
      (λ k there. or_right (same_job k.job i.job) (has_job k.job (item_jobs items)) there) (named items),
)

batch_put : (site : Site) (h : History) (t m : ℕ) (items : Listed Item) (evicted : Listed ℕ) → IsLegal site h → answer.Batch items evicted ≡ answer_of site h t (ask.Claim m) → AllOf (OfJob (IsPut h)) items.items
batch_put site h t m items evicted legal is =
    all_mono (λ (i : Item). has_job i.job (item_jobs items.items) ≡ true) (OfJob (IsPut h)) items.items
    (λ i there. live_put site h legal i.job (claim_live site h t (ask.Claim m) (answer.Batch items evicted) i.job is there)) (named items.items)

if_put : (h : History) (b : Bool) (js : List Job) (xs : List Item) → AllOf (OfJob (IsPut h)) xs → AllOf (OfJob (IsPut h)) (if b then without_jobs js xs else xs)
if_put h true js xs all = all_filter (OfJob (IsPut h)) (λ (i : Item). not (has_job i.job js)) xs all
if_put h false js xs all = all

claimed_step : (site : Site) (h : History) (t : ℕ) (k : Ask) (a : Answer) (m : ℕ) (before : List Item) → IsLegal site h → a ≡ answer_of site h t k
    → AllOf (OfJob (IsPut h)) before → AllOf (OfJob (IsPut h)) (claimed_after k a m before)
claimed_step site h t (ask.Claim k) (answer.Batch items evicted) m before legal is all =
    elim (bool_cases (k == m)) [
      | inl hit ↦ rw hit (all_append (OfJob (IsPut h)) before items.items all (batch_put site h t k items evicted legal is))
      | inr miss ↦ rw miss all
    ]
claimed_step site h t (ask.Flushed k items) a m before legal is all = if_put h (k == m) (item_jobs items.items) before all
claimed_step site h t (ask.Recalled k job) a m before legal is all = if_put h (k == m) (job ∷ []) before all
claimed_step site h t (ask.Failed k f charged returned) a m before legal is all = if_put h (k == m) (charged.items ++ returned.items) before all
claimed_step site h t _ a m before legal is all = all

claimed_all : (site : Site) (h : History) → IsLegal site h → (m : ℕ) → AllOf (OfJob (IsPut h)) (claimed_items h m)
claimed_all site [] legal m = tt
claimed_all site (e ∷ h) legal m =
    all_mono (OfJob (IsPut h)) (OfJob (IsPut (e ∷ h))) (claimed_items (e ∷ h) m) (λ i p. put_older e h i.job p)
    (claimed_step site h e.at e.ask e.answer m (claimed_items h m) legal.0 legal.1.answered (claimed_all site h legal.0 m))

pub claimed_put : (site : Site) (h : History) → IsLegal site h → (m : ℕ) (j : Job) → claims h m j ≡ true → IsPut h j
claimed_put site h legal m j is = job_among (IsPut h) (claimed_items h m) (claimed_all site h legal m) j is
