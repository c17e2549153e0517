-- The live jobs of a file, listed, and ended one by one.
use Rattle.std.proofs.Common.{◌≡◌, ◌∙◌, ◌-◌, ◌≤◌, ℕ, zero, suc, List, [], ◌∷◌, ◌++◌, Bool, true, false, ◌||◌, refl, sym, ap, arith, append_assoc, append-nil}
use Rattle.std.specs.Prelude.{Option, Some, None, ◌==◌, ◌&&◌, if◌then◌else◌, option_map}
use Rattle.cta_site.specs.declared.site.Site.{Site}
use Rattle.cta_model.specs.declared.asks.Job.{Job}
use Rattle.cta_model.specs.Files.{copies_of_file}
use Rattle.cta_model.specs.History.{History}
use Rattle.cta_model.specs.Jobs.{live_birth}
use Rattle.cta_model.specs.Mounts.{has_copy, job_of}
use Rattle.cta_model.specs.Recalls.{Recall}
use Rattle.part_model.specs.JobBook.{Book, TellSame, end_jobs, job_if}
use Rattle.part_laws.specs.QueueBooks.{IsBook, archive_jobs, jobs_of_file}
use Rattle.part_laws.proofs.BookSteps.{end_same, tell_chain}
use Rattle.caller_asks.specs.Jobs.{archives_in, jobs_in}

-- ---- the list

pub listed_at_first : (births : ℕ → ℕ → Option ℕ) (f c : ℕ) (out : List Job) → c ≡ 0 → out ≡ out ++ archives_in births f c
listed_at_first births f c out is = sym (ap (λ (n : ℕ). out ++ archives_in births f n) is ∙ append-nil out)

listed_more : (births : ℕ → ℕ → Option ℕ) (f d : ℕ) (old mid now : List Job) → mid ≡ old ++ archives_in births f (suc d - 1) → now ≡ mid ++ job_if f (suc d) (births f (suc d)) → now ≡ old ++ archives_in births f (suc d)
listed_more births f d old mid now was is =
    let less : suc d - 1 ≡ d = omega arith in
    is
    ∙ ap (λ (js : List Job). js ++ job_if f (suc d) (births f (suc d))) (was ∙ ap (λ (n : ℕ). old ++ archives_in births f n) less)
    ∙ append_assoc old (archives_in births f d) (job_if f (suc d) (births f (suc d)))

-- one copy more that has a live archive job
pub listed_behind : (births : ℕ → ℕ → Option ℕ) (f c b : ℕ) (old mid now : List Job) → 1 ≤ c → mid ≡ old ++ archives_in births f (c - 1) → Some b ≡ births f c → now ≡ mid ++ job_of b f c ∷ [] → now ≡ old ++ archives_in births f c
listed_behind births f zero b old mid now low was is pushed = absurd (omega arith)
listed_behind births f (suc d) b old mid now low was is pushed = listed_more births f d old mid now was (pushed ∙ ap (λ (o : Option ℕ). mid ++ job_if f (suc d) o) is)

-- one copy more that has none
pub listed_past : (births : ℕ → ℕ → Option ℕ) (f c : ℕ) (old mid : List Job) → 1 ≤ c → mid ≡ old ++ archives_in births f (c - 1) → None ≡ births f c → mid ≡ old ++ archives_in births f c
listed_past births f zero old mid low was is = absurd (omega arith)
listed_past births f (suc d) old mid low was is = listed_more births f d old mid mid was (sym (append-nil mid) ∙ ap (λ (o : Option ℕ). mid ++ job_if f (suc d) o) is)

archives_are : (site : Site) (h : History) (b : Book) (f n : ℕ) → IsBook site h b → archives_in b.archive f n ≡ archive_jobs site h f n
archives_are site h b f zero is = refl
archives_are site h b f (suc c) is =
    ap (λ (js : List Job). js ++ job_if f (suc c) (b.archive f (suc c))) (archives_are site h b f c is)
    ∙ ap (λ (o : Option ℕ). archive_jobs site h f c ++ job_if f (suc c) o) (is.archive f c)

-- the list that a book tells is that of the history
pub jobs_are : (site : Site) (h : History) (b : Book) (f n : ℕ) → IsBook site h b → n ≡ copies_of_file site h f → jobs_in b f n ≡ jobs_of_file site h f
jobs_are site h b f n is copies =
    ap (λ (o : Option Recall). job_if f 0 (option_map (λ (r : Recall). r.birth) o) ++ archives_in b.archive f n) (is.recall f)
    ∙ ap (λ (js : List Job). job_if f 0 (live_birth site h f 0) ++ js) (archives_are site h b f n is ∙ ap (archive_jobs site h f) copies)

-- ---- the ends

pub none_end : (b : Book) → TellSame b (end_jobs [] b)
none_end b = record { recall = λ f. refl; archive = λ f c. refl; claimer = λ j. refl; charges = λ j. refl; last_birth = λ f c. refl; named = λ j. refl }

if_twice : {A : Type 0} → (a b : Bool) (x : Option A) → (if b then None else (if a || false then None else x)) ≡ (if a || b then None else x)
if_twice true true x = refl
if_twice true false x = refl
if_twice false true x = refl
if_twice false false x = refl

end_first : (j : Job) (js : List Job) (b : Book) → TellSame (end_jobs js (end_jobs (j ∷ []) b)) (end_jobs (j ∷ js) b)
end_first j js b = record {
  recall = λ f. if_twice (j.file == f && j.copy == 0) (has_copy f 0 js) (b.recall f);
  archive = λ f c. if_twice (j.file == f && j.copy == suc c) (has_copy f (suc c) js) (b.archive f (suc c));
  claimer = λ k. refl;
  charges = λ k. refl;
  last_birth = λ f c. refl;
  named = λ k. refl;
}

-- the first ends, and then the others
pub end_rest : (j : Job) (js : List Job) (b u w : Book) → TellSame u (end_jobs (j ∷ []) b) → TellSame w (end_jobs js u) → TellSame w (end_jobs (j ∷ js) b)
end_rest j js b u w first rest =
    tell_chain w (end_jobs js u) (end_jobs (j ∷ js) b) rest
    (tell_chain (end_jobs js u) (end_jobs js (end_jobs (j ∷ []) b)) (end_jobs (j ∷ js) b) (end_same js u (end_jobs (j ∷ []) b) first) (end_first j js b))
