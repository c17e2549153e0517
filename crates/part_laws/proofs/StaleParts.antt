-- The parts at first, and after a Recalled that is told Stale.
use Rattle.std.proofs.Common.{append-nil, ◌≡◌, ◌∙◌, ℕ, zero, suc, inl, inr, [], ◌∷◌, Bool, true, false, not, refl, sym, ap, subst}
use Rattle.std.specs.Prelude.{Option, None, if◌then◌else◌}
use Rattle.cta_site.specs.declared.site.Site.{Site}
use Rattle.cta_model.specs.declared.entries.Entry.{Entry}
use Rattle.cta_model.specs.declared.asks.Ask.{Ask}
use Rattle.cta_model.specs.declared.asks.Direction.{Direction}
use Rattle.cta_model.specs.declared.asks.Job.{Job}
use Rattle.cta_model.specs.History.{History, is_number}
use Rattle.cta_model.specs.Mounts.{claimer_of, has_job, same_job}
use Rattle.cta_model.specs.Jobs.{is_live_job, live_birth, subscribers_of}
use Rattle.cta_model.specs.Recalls.{waits_for}
use Rattle.cta_model.specs.Queues.{queue_of, key_of, is_queued}
use Rattle.cta_model.specs.Answers.{refuse, answer_of, is_known}
use Rattle.cta_model.specs.Legal.{IsLegal}
use Rattle.cta_laws.proofs.Tests.{bool_cases}
use Rattle.cta_laws.proofs.OnceLaw.{same_job_eq}
use Rattle.cta_model.specs.declared.asks.Ask.TheVariants as ask
use Rattle.cta_model.specs.declared.asks.Fate.TheVariants as fate
use Rattle.cta_model.specs.declared.answers.Answer.TheVariants as answer
use Rattle.cta_model.specs.declared.answers.Refusal.TheVariants as refusal
use Rattle.cta_model.specs.declared.asks.Direction.TheVariants as direction
use Rattle.part_laws.specs.JobParts.{JobParts, JobPartsStand, after_stale, no_job_parts}
use Rattle.part_model.specs.JobBook.{give_back_jobs}
use Rattle.part_laws.proofs.QueueSteps.{key_or, live_low, queued_by}
use Rattle.cta_laws.proofs.Frames.{key_same}
use Rattle.part_laws.proofs.BookMoves.{book_recalled_stale}
use Rattle.part_laws.proofs.BirthSteps.{birth_said, birth_told}
use Rattle.cta_laws.proofs.Claimers.{claimer_step}
use Rattle.cta_laws.specs.Changes.{may_change_keys, may_change_mounts, may_subscribe}
use Rattle.cta_laws.specs.Claims.{claimer_after}
use Rattle.part_laws.proofs.QueueMoves.{queue_stays}
use Rattle.part_laws.specs.QueueBooks.{book_of}
use Rattle.part_laws.proofs.CountSteps.{counts_stay}
use Rattle.part_laws.proofs.BookSteps.{give_back_same, tell_chain}
use Rattle.part_laws.proofs.LineSteps.{lines_stay}

pub parts_start : (site : Site) → JobPartsStand site [] no_job_parts
parts_start site = record {
  book = record { recall = λ f. refl; archive = λ f c. refl; claimer = λ j. refl; charges = λ j. refl; last_birth = λ f c. refl; named = λ j. refl };
  pools = λ key. refl;
  recalls = λ key. refl;
  counts = λ way vo. refl;
}

arrived_dead : (live t : Bool) → answer.Arrived fate.Stale ≡ refuse refusal.Unknown t (answer.Arrived (if live then fate.Done else fate.Stale)) → live ≡ false
arrived_dead true false y = absurd (cc)
arrived_dead true true y = absurd (cc)
arrived_dead false t y = refl

stale_queue : (site : Site) (h : History) (e : Entry) (m : ℕ) (job : Job) → IsLegal site (e ∷ h) → e.ask ≡ ask.Recalled m job → e.answer ≡ answer.Arrived fate.Stale → (way : Direction) (key : ℕ) → queue_of site (e ∷ h) way key ≡ queue_of site h way key
stale_queue site h e m job legal ek ea way key = queue_stays site h (e ∷ h) way key legal.0 legal (λ j. point j)
  where
    dead : is_live_job site h job ≡ false
    dead = arrived_dead (is_live_job site h job) (not (is_known h m (job ∷ []))) (sym ea ∙ legal.1.answered ∙ ap (answer_of site h e.at) ek)

    live : (j : Job) → is_live_job site (e ∷ h) j ≡ is_live_job site h j
    live j = sym (ap (is_number j.birth) (birth_told site (e ∷ h) (give_back_jobs (job ∷ []) (book_of site h)) (book_recalled_stale site h e m job legal ek ea) j.file j.copy)) ∙ by j.copy
      where
        by : (c : ℕ) → is_number j.birth (birth_said (give_back_jobs (job ∷ []) (book_of site h)) j.file c) ≡ is_number j.birth (live_birth site h j.file c)
        by zero = refl
        by (suc c) = refl

    claimer : (j : Job) → claimer_of (e ∷ h) j ≡ (if has_job j (job ∷ []) then None else claimer_of h j)
    claimer j = claimer_step site h e legal j ∙ ap (λ (k : Ask). claimer_after k e.answer j (claimer_of h j)) ek

    not_live : (j : Job) → has_job j (job ∷ []) ≡ true → is_live_job site h j ≡ false
    not_live j there =
        elim (bool_cases (same_job j job))
        [ inl hit ↦ subst (λ (k : Job). is_live_job site h k ≡ false) (sym (same_job_eq j job hit)) dead | inr miss ↦ (let bad : false ≡ true = rw miss at there in absurd (cc)) ]

    point : (j : Job) → is_queued site (e ∷ h) way key j ≡ is_queued site h way key j
    point j =
        elim (bool_cases (has_job j (job ∷ []))) [
          | inl there ↦ rw (live j, not_live j there) refl
          | inr other ↦
              (let same : claimer_of (e ∷ h) j ≡ claimer_of h j = claimer j ∙ ap (λ (b : Bool). if b then None else claimer_of h j) other in
              ap (λ (b : Bool). queued_by way key j b (claimer_of (e ∷ h) j) (key_of site (e ∷ h) j)) (live j)
              ∙ ap (λ (o : Option ℕ). queued_by way key j (is_live_job site h j) o (key_of site (e ∷ h) j)) same
              ∙ key_or way key j (is_live_job site h j) (claimer_of h j) (key_of site (e ∷ h) j) (key_of site h j) (λ on. key_same site e h j (live_low site h legal.0 j on) (ap may_change_keys ek)))
        ]

pub parts_recalled_stale : (site : Site) (h : History) (e : Entry) (m : ℕ) (job : Job) (p : JobParts) → IsLegal site (e ∷ h) → e.ask ≡ ask.Recalled m job → e.answer ≡ answer.Arrived fate.Stale → JobPartsStand site h p → JobPartsStand site (e ∷ h) (after_stale job p)
parts_recalled_stale site h e m job p legal ek ea s = record {
  book = tell_chain _ _ _ (give_back_same (job ∷ []) p.book (book_of site h) s.book) (book_recalled_stale site h e m job legal ek ea);
  pools = lines_stay site e h direction.Archive p.pools (stale_queue site h e m job legal ek ea direction.Archive) s.pools;
  recalls = lines_stay site e h direction.Retrieve p.recalls (stale_queue site h e m job legal ek ea direction.Retrieve) s.recalls;
  counts = counts_stay site e h p.counts (ap may_change_mounts ek) s.counts;
}

-- ---- who has subscribed

waits_none : (site : Site) (h : History) (k : Ask) (f : ℕ) → may_subscribe k ≡ false → waits_for site h k f ≡ false
waits_none site h (ask.Stage who files) f c = absurd (cc)
waits_none site h (ask.Repack who v) f c = absurd (cc)
waits_none site h _ f c = refl

pub subscribers_same : (site : Site) (h : History) (e : Entry) (j : Job) → may_subscribe e.ask ≡ false → subscribers_of site (e ∷ h) j ≡ subscribers_of site h j
subscribers_same site h e j c = (let none : waits_for site h e.ask j.file ≡ false = waits_none site h e.ask j.file c in rw none (append-nil (subscribers_of site h j)))
