-- Flags that stay, and recalls among jobs.
use Rattle.std.proofs.Common.{◌≡◌, ◌∙◌, ℕ, List, [], ◌∷◌, Bool, true, false, ◌||◌, refl, sym, ap, arith}
use Rattle.std.specs.Prelude.{Option, Some, None, option_map, if◌then◌else◌, ◌==◌, filter, map}
use Rattle.std.proofs.lemmas.Bool.{eq-eqb, eqb-true}
use Rattle.cta_site.specs.declared.site.Site.{Site}
use Rattle.cta_model.specs.declared.asks.Job.{Job}
use Rattle.cta_model.specs.History.{History, has_number, is_number}
use Rattle.cta_model.specs.Mounts.{has_job, same_job}
use Rattle.cta_model.specs.Recalls.{Recall}
use Rattle.cta_model.specs.Space.{is_safe}
use Rattle.cta_laws.proofs.Claims.{AllOf}
use Rattle.part_model.specs.declared.space.Resident.{Resident}
use Rattle.part_model.specs.Held.{Held, numbers, set_all}
use Rattle.part_laws.specs.BookCalls.{recalls_in}
use Rattle.part_laws.specs.Buffer.{resident_at}
use Rattle.part_moves.specs.Flags.{job_files}
use Rattle.fault_asks.proofs.EndedJobs.{filter_on}

-- ---- flags that stay

keeps : (f : ℕ) (safe : ℕ → Bool) (rs : List Resident) → AllOf (λ (r : Resident). r.safe ≡ safe r.file) rs → map (λ (r : Resident). if r.file == f then record r { safe = safe f } else r) rs ≡ rs
keeps f safe [] all = refl
keeps f safe (r ∷ rs) all = ap (λ (x : Resident). x ∷ map (λ (r : Resident). if r.file == f then record r { safe = safe f } else r) rs) (one (r.file == f) refl) ∙ ap (λ (xs : List Resident). r ∷ xs) (keeps f safe rs all.1)
  where
    one : (b : Bool) → (r.file == f) ≡ b → ◌≡◌ {A = Resident} (if b then record r { safe = safe f } else r) r
    one true e = ap (λ (s : Bool). record r { safe = s }) (ap safe (sym (eqb-true r.file f e)) ∙ sym all.0)
    one false e = refl

-- flags that files have already are set for nothing
pub set_again : (safe : ℕ → Bool) (fs : List ℕ) (v : Held) → AllOf (λ (r : Resident). r.safe ≡ safe r.file) v.files → set_all safe fs v ≡ v
set_again safe [] v all = refl
set_again safe (f ∷ fs) v all = ap (λ (rs : List Resident). set_all safe fs (record v { files = rs })) (keeps f safe v.files all) ∙ set_again safe fs v all

pub all_residents : (site : Site) (h : History) (safe : ℕ → Bool) (fs : List ℕ) → ((f : ℕ) → has_number f fs ≡ true → is_safe site h f ≡ safe f) → AllOf (λ (r : Resident). r.safe ≡ safe r.file) (map (resident_at site h) fs)
all_residents site h safe [] same = tt
all_residents site h safe (f ∷ fs) same = (same f (first (f == f) (has_number f fs) (eq-eqb f f refl)), all_residents site h safe fs (λ g there. same g (later (g == f) (has_number g fs) there)))
  where
    first : (a b : Bool) → a ≡ true → (a || b) ≡ true
    first true b e = refl
    first false b e = absurd (cc)

    later : (a b : Bool) → b ≡ true → (a || b) ≡ true
    later true b e = refl
    later false b e = e

pub numbers_all : (site : Site) (h : History) (fs : List ℕ) → numbers (map (resident_at site h) fs) ≡ fs
numbers_all site h [] = refl
numbers_all site h (f ∷ fs) = ap (λ (ns : List ℕ). f ∷ ns) (numbers_all site h fs)

-- ---- recalls among jobs

pub all_recalls : (js : List Job) → ((j : Job) → has_job j js ≡ true → j.copy ≡ 0) → recalls_in js ≡ job_files js
all_recalls js each = ap (map (λ (j : Job). j.file)) (filter_on (λ (j : Job). j.copy == 0) (λ j. true) js (λ j there. (let zero_copy : j.copy ≡ 0 = each j there in grind (arith, zero_copy))) ∙ whole js)
  where
    whole : (xs : List Job) → filter (λ (j : Job). true) xs ≡ xs
    whole [] = refl
    whole (x ∷ xs) = ap (λ (ys : List Job). x ∷ ys) (whole xs)

-- a file of jobs is the file of one
pub file_there : (f : ℕ) (js : List Job) → has_number f (job_files js) ≡ true → (j : Job) × (has_job j js ≡ true) × (j.file ≡ f)
file_there f [] e = absurd (cc)
file_there f (j ∷ js) e = by (f == j.file) refl e (λ more. file_there f js more)
  where
    by : (b : Bool) → (f == j.file) ≡ b → (b || has_number f (job_files js)) ≡ true → (has_number f (job_files js) ≡ true → (j : Job) × (has_job j js ≡ true) × (j.file ≡ f)) → (k : Job) × (has_job k (j ∷ js) ≡ true) × (k.file ≡ f)
    by true is e rest = (j, (let own : same_job j j ≡ true = grind arith in rw own refl), sym (eqb-true f j.file is))
    by false is e rest = (let r = rest e in (r.0, later (same_job r.0 j) (has_job r.0 js) r.1, r.2))
      where
        later : (a b : Bool) → b ≡ true → (a || b) ≡ true
        later true b e = refl
        later false b e = e

pub live_there : (b : ℕ) (o : Option Recall) → is_number b (option_map (λ (r : Recall). r.birth) o) ≡ true → (r : Recall) × (o ≡ Some r) × (r.birth ≡ b)
live_there b None e = absurd (cc)
live_there b (Some r) e = (r, refl, grind (arith, e))
