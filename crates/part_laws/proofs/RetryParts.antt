-- A Retry moves the parts by the jobs that it is told.
use Rattle.std.proofs.Common.{◌≡◌, ◌∙◌, ℕ, zero, suc, ◌+◌, ◌≤◌, inl, inr, List, [], ◌∷◌, ◌++◌, true, false, ◌&&◌, ◌||◌, refl, sym, ap, subst, arith, length}
use Rattle.std.specs.Prelude.{Option, Some, None, is_none, if◌then◌else◌, ◌==◌, bytes_eq}
use Rattle.std.proofs.lemmas.Bool.{and_parts, eqb-true}
use Rattle.std.proofs.lemmas.Slice.Eq.{bytes_eq-Decides}
use Rattle.cta_site.specs.declared.site.Site.{Site}
use Rattle.cta_site.specs.Listed.{Listed}
use Rattle.cta_model.specs.declared.entries.Entry.{Entry}
use Rattle.cta_model.specs.declared.asks.Who.{Who}
use Rattle.cta_model.specs.declared.asks.Job.{Job}
use Rattle.cta_model.specs.History.{History, has_text}
use Rattle.cta_model.specs.Files.{live_file, path_of, copies_of_file}
use Rattle.cta_model.specs.Mounts.{has_job, same_job, has_copy, job_of}
use Rattle.cta_model.specs.Jobs.{archive_birth, live_birth}
use Rattle.cta_model.specs.Answers.{answer_of, is_failed, names_twice, retried_file, retried_jobs}
use Rattle.cta_model.specs.Legal.{IsLegal}
use Rattle.cta_laws.proofs.Tests.{bool_cases, or_cases, or_left, or_right}
use Rattle.cta_laws.proofs.Claims.{AllOf, all_append, all_mono}
use Rattle.cta_laws.proofs.JobLists.{job_self}
use Rattle.cta_model.specs.declared.asks.Ask.TheVariants as ask
use Rattle.cta_model.specs.declared.answers.Answer.TheVariants as answer
use Rattle.cta_laws.proofs.JobFiles.{live_path, retried_is}
use Rattle.part_laws.proofs.Births.{has_both}
use Rattle.part_laws.proofs.CopyJobs.{IsSomeCopy, some_all, some_copies, some_order}
use Rattle.part_laws.specs.BirthParts.{after_births}
use Rattle.part_laws.specs.JobParts.{JobParts, JobPartsStand}
use Rattle.part_laws.proofs.Orders.{not_either}
use Rattle.part_laws.proofs.PartSteps.{order_once}
use Rattle.cta_laws.proofs.JobLaw.{among}
use Rattle.cta_laws.specs.Changes.{may_change_claims, may_change_keys, may_change_mounts}
use Rattle.part_laws.proofs.BookMoves.{book_retry}
use Rattle.part_laws.proofs.StageParts.{parts_births}

-- a retried job is born by this entry, is no recall, and its copy had no live job
abbrev IsRetried : Site → History → Job → Type 0
IsRetried site h j = (j.birth ≡ length h + 1) × (1 ≤ j.copy) × (live_birth site h j.file j.copy ≡ None)

not_born : (o : Option ℕ) → is_none o ≡ true → o ≡ None
not_born None e = refl
not_born (Some b) e = absurd (cc)

failed_dead : (site : Site) (h : History) (f c : ℕ) → 1 ≤ c → is_failed site h f c ≡ true → live_birth site h f c ≡ None
failed_dead site h f zero low e = absurd (omega arith)
failed_dead site h f (suc c) low e = not_born (archive_birth site h f (suc c)) (and_parts _ (is_none (archive_birth site h f (suc c))) e).1

file_retried : (site : Site) (h : History) (o : Option ℕ) → AllOf (IsRetried site h) (retried_file site h o)
file_retried site h None = tt
file_retried site h (Some f) =
    all_mono (IsSomeCopy (is_failed site h f) (length h + 1) f 1) (IsRetried site h) (some_copies (is_failed site h f) (length h + 1) f 1 (copies_of_file site h f))
    (λ j p. (p.0, p.2, subst (λ (g : ℕ). live_birth site h g j.copy ≡ None) (sym p.1) (failed_dead site h f j.copy p.2 p.3))) (some_all (is_failed site h f) (length h + 1) f 1 (copies_of_file site h f))

jobs_retried : (site : Site) (h : History) (seen ps : List (List ℕ)) → AllOf (IsRetried site h) (retried_jobs site h seen ps)
jobs_retried site h seen [] = tt
jobs_retried site h seen (p ∷ ps) =
    elim (has_text p seen) as (λ b. AllOf (IsRetried site h) (if b then retried_jobs site h seen ps else retried_file site h (live_file h p) ++ retried_jobs site h (p ∷ seen) ps)) [
      | true ↦ jobs_retried site h seen ps
      | false ↦ all_append (IsRetried site h) (retried_file site h (live_file h p)) _ (file_retried site h (live_file h p)) (jobs_retried site h (p ∷ seen) ps)
    ]

-- no two paths name one file, so no job is retried twice
abbrev IsUnseen : History → List (List ℕ) → Job → Type 0
IsUnseen h seen j = has_text (path_of h j.file) seen ≡ false

pub file_of : (site : Site) (h : History) (p : List ℕ) (o : Option ℕ) → live_file h p ≡ o → AllOf (λ (j : Job). path_of h j.file ≡ p) (retried_file site h o)
file_of site h p None is = tt
file_of site h p (Some f) is =
    all_mono (IsSomeCopy (is_failed site h f) (length h + 1) f 1) (λ (j : Job). path_of h j.file ≡ p) (some_copies (is_failed site h f) (length h + 1) f 1 (copies_of_file site h f)) (λ j q. ap (path_of h) q.1 ∙ live_path h p f is) (some_all (is_failed site h f) (length h + 1) f 1 (copies_of_file site h f))

jobs_unseen : (site : Site) (h : History) (seen ps : List (List ℕ)) → AllOf (IsUnseen h seen) (retried_jobs site h seen ps)
jobs_unseen site h seen [] = tt
jobs_unseen site h seen (p ∷ ps) =
    elim (bool_cases (has_text p seen)) [
      | inl there ↦ rw there (jobs_unseen site h seen ps)
      | inr new ↦
          rw new (all_append (IsUnseen h seen) (retried_file site h (live_file h p)) (retried_jobs site h (p ∷ seen) ps)
          (all_mono (λ (j : Job). path_of h j.file ≡ p) (IsUnseen h seen) (retried_file site h (live_file h p)) (λ j is. subst (λ (q : List ℕ). has_text q seen ≡ false) (sym is) new) (file_of site h p (live_file h p) refl))
          (all_mono (IsUnseen h (p ∷ seen)) (IsUnseen h seen) (retried_jobs site h (p ∷ seen) ps) (λ j d. (not_either (bytes_eq (path_of h j.file) p) (has_text (path_of h j.file) seen) d).1) (jobs_unseen site h (p ∷ seen) ps)))
    ]

pub twice_both : (xs ys : List Job) → names_twice xs ≡ false → names_twice ys ≡ false → ((j : Job) → has_job j xs ≡ true → has_job j ys ≡ false) → names_twice (xs ++ ys) ≡ false
twice_both [] ys a b apart = b
twice_both (x ∷ xs) ys a b apart =
    (let parts : (has_job x xs ≡ false) × (names_twice xs ≡ false) = not_either (has_job x xs) (names_twice xs) a in
    let there : has_job x ys ≡ false = apart x (or_left (same_job x x) (has_job x xs) (job_self x)) in
    let neither : (has_job x xs || has_job x ys) ≡ false = rw (parts.0, there) refl in
    let none : has_job x (xs ++ ys) ≡ false = has_both x xs ys ∙ neither in
    rw none (twice_both xs ys parts.1 b (λ j there. apart j (or_right (same_job j x) (has_job j xs) there))))

pub file_once : (site : Site) (h : History) (o : Option ℕ) → names_twice (retried_file site h o) ≡ false
file_once site h None = refl
file_once site h (Some f) = order_once (some_copies (is_failed site h f) (length h + 1) f 1 (copies_of_file site h f)) (some_order (is_failed site h f) (length h + 1) f 1 (copies_of_file site h f))

jobs_once : (site : Site) (h : History) (seen ps : List (List ℕ)) → names_twice (retried_jobs site h seen ps) ≡ false
jobs_once site h seen [] = refl
jobs_once site h seen (p ∷ ps) =
    elim (has_text p seen) as (λ b. names_twice (if b then retried_jobs site h seen ps else retried_file site h (live_file h p) ++ retried_jobs site h (p ∷ seen) ps) ≡ false) [
      | true ↦ jobs_once site h seen ps
      | false ↦ twice_both (retried_file site h (live_file h p)) (retried_jobs site h (p ∷ seen) ps) (file_once site h (live_file h p)) (jobs_once site h (p ∷ seen) ps) (λ j there. apart j there)
    ]
  where
    apart : (j : Job) → has_job j (retried_file site h (live_file h p)) ≡ true → has_job j (retried_jobs site h (p ∷ seen) ps) ≡ false
    apart j there =
        elim (bool_cases (has_job j (retried_jobs site h (p ∷ seen) ps))) [
          | inr miss ↦ miss
          | inl hit ↦
              (let is : path_of h j.file ≡ p = among (λ (j : Job). path_of h j.file ≡ p) (retried_file site h (live_file h p)) (file_of site h p (live_file h p) refl) j there in
              let d : has_text (path_of h j.file) (p ∷ seen) ≡ false = among (IsUnseen h (p ∷ seen)) (retried_jobs site h (p ∷ seen) ps) (jobs_unseen site h (p ∷ seen) ps) j hit in
              let no_match : bytes_eq (path_of h j.file) p ≡ false = (not_either (bytes_eq (path_of h j.file) p) (has_text (path_of h j.file) seen) d).0 in
              let match : bytes_eq (path_of h j.file) p ≡ true = (bytes_eq-Decides (path_of h j.file) p).1 is in
              absurd (cc))
        ]

copy_retried : (site : Site) (h : History) (f c : ℕ) (js : List Job) → AllOf (IsRetried site h) js → has_copy f c js ≡ true → IsRetried site h (job_of (length h + 1) f c)
copy_retried site h f c [] all there = absurd (cc)
copy_retried site h f c (j ∷ js) all there =
    elim (or_cases (j.file == f && j.copy == c) (has_copy f c js) there) [
      | inl hit ↦
          (let parts : (j.file == f ≡ true) × (j.copy == c ≡ true) = and_parts _ _ hit in
          let file : j.file ≡ f = eqb-true _ _ parts.0 in
          let copy : j.copy ≡ c = eqb-true _ _ parts.1 in
          subst (λ (n : ℕ). IsRetried site h (job_of (length h + 1) n c)) file (subst (λ (n : ℕ). IsRetried site h (job_of (length h + 1) j.file n)) copy (refl, all.0.1, all.0.2)))
      | inr rest ↦ copy_retried site h f c js all.1 rest
    ]

-- a Retry moves the parts by the jobs that it is told
pub parts_retry : (site : Site) (h : History) (e : Entry) (who : Who) (paths : Listed (List ℕ)) (jobs : Listed Job) (p : JobParts) → IsLegal site (e ∷ h) → e.ask ≡ ask.Retry who paths → e.answer ≡ answer.Retried jobs
    → JobPartsStand site h p → JobPartsStand site (e ∷ h) (after_births site (e ∷ h) jobs.items [] p)
parts_retry site h e who paths jobs p legal ek ea s =
    parts_births site h e jobs.items [] p legal (book_retry site h e who paths jobs legal ek ea (λ f. no_recall f) (λ f c there. dead f c there))
    (all_mono (IsRetried site h) (λ (j : Job). j.birth ≡ length h + 1) jobs.items (λ j r. r.0) all)
    (subst (λ (js : List Job). names_twice js ≡ false) (sym is) (jobs_once site h [] paths.items))
    (λ f c there. (copy_retried site h f c jobs.items all there).2)
    (ap may_change_claims ek) (ap may_change_keys ek) (ap may_change_mounts ek) s
  where
    is : jobs.items ≡ retried_jobs site h [] paths.items
    is = retried_is _ _ (retried_jobs site h [] paths.items) jobs (sym ea ∙ legal.1.answered ∙ ap (answer_of site h e.at) ek)

    all : AllOf (IsRetried site h) jobs.items
    all = subst (λ (js : List Job). AllOf (IsRetried site h) js) (sym is) (jobs_retried site h [] paths.items)

    no_recall : (f : ℕ) → has_copy f 0 jobs.items ≡ false
    no_recall f = elim (bool_cases (has_copy f 0 jobs.items)) [ inl hit ↦ (let low : 1 ≤ 0 = (copy_retried site h f 0 jobs.items all hit).1 in absurd (omega arith)) | inr miss ↦ miss ]

    dead : (f c : ℕ) → has_copy f (suc c) jobs.items ≡ true → archive_birth site h f (suc c) ≡ None
    dead f c there = (copy_retried site h f (suc c) jobs.items all there).2
