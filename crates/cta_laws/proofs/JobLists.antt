-- Lists of jobs and of items: what is left where some are taken out.
use Rattle.std.proofs.Common.{◌≡◌, ℕ, ◌+◌, ◌≤◌, inl, inr, List, [], ◌∷◌, Bool, true, false, ◌&&◌, ◌||◌, not, refl, subst, arith, length, ap}
use Rattle.std.specs.Prelude.{if◌then◌else◌, ◌==◌, filter}
use Rattle.std.specs.List.{list_all, list_any}
use Rattle.std.proofs.lemmas.Bool.{and_parts, eq-eqb}
use Rattle.cta_model.specs.declared.asks.Item.{Item}
use Rattle.cta_model.specs.declared.asks.Job.{Job}
use Rattle.cta_model.specs.Mounts.{same_job, has_job, item_jobs, without_jobs}
use Rattle.cta_model.specs.Answers.{names_twice}
use Rattle.cta_laws.proofs.Tests.{bool_cases, or_left, or_right}
use Rattle.cta_laws.proofs.OnceLaw.{same_job_eq}

pub job_self : (j : Job) → same_job j j ≡ true
job_self j = rw (eq-eqb j.birth j.birth refl, eq-eqb j.file j.file refl, eq-eqb j.copy j.copy refl) refl

pub filter_le : {A : Type 0} (test : A → Bool) (xs : List A) → length (filter test xs) ≤ length xs
filter_le test [] = omega arith
filter_le test (x ∷ xs) = elim (test x) as (λ b. length (if b then x ∷ filter test xs else filter test xs) ≤ length (x ∷ xs)) [ true ↦ omega (arith, filter_le test xs) | false ↦ omega (arith, filter_le test xs) ]

-- a job that is claimed and named is taken out
pub without_less : (js : List Job) (items : List Item) (j : Job) → has_job j js ≡ true → has_job j (item_jobs items) ≡ true → length (without_jobs js items) + 1 ≤ length items
without_less js [] j named there = absurd (cc)
without_less js (i ∷ items) j named there =
    elim (bool_cases (same_job j i.job)) [
      | inl hit ↦
          (let same : j ≡ i.job = same_job_eq j i.job hit in
          let out : has_job i.job js ≡ true = subst (λ (x : Job). has_job x js ≡ true) same named in
          rw out (omega (arith, filter_le (λ (x : Item). not (has_job x.job js)) items)))
      | inr miss ↦
          (let rest : length (without_jobs js items) + 1 ≤ length items = without_less js items j named (rw miss at there) in
          elim (not (has_job i.job js)) as (λ b. length (if b then i ∷ without_jobs js items else without_jobs js items) + 1 ≤ length (i ∷ items)) [ true ↦ omega arith | false ↦ omega arith ])
    ]

pub without_twice : (j : Job) (js : List Job) (items : List Item) → without_jobs (j ∷ js) items ≡ without_jobs (j ∷ []) (without_jobs js items)
without_twice j js [] = refl
without_twice j js (i ∷ items) =
    elim (bool_cases (has_job i.job js)) [
      | inl out ↦ elim (bool_cases (same_job i.job j)) [ inl hit ↦ rw (out, hit) (without_twice j js items) | inr miss ↦ rw (out, miss) (without_twice j js items) ]
      | inr stays ↦ elim (bool_cases (same_job i.job j)) [ inl hit ↦ rw (stays, hit) (without_twice j js items) | inr miss ↦ rw (stays, miss) (ap (λ (xs : List Item). i ∷ xs) (without_twice j js items)) ]
    ]

pub still_there : (j : Job) (js : List Job) (items : List Item) → has_job j js ≡ false → has_job j (item_jobs items) ≡ true → has_job j (item_jobs (without_jobs js items)) ≡ true
still_there j js [] none there = absurd (cc)
still_there j js (i ∷ items) none there =
    elim (bool_cases (same_job j i.job)) [
      | inl hit ↦ (let stays : has_job i.job js ≡ false = subst (λ (x : Job). has_job x js ≡ false) (same_job_eq j i.job hit) none in rw stays (or_left (same_job j i.job) _ hit))
      | inr miss ↦
          (let rest : has_job j (item_jobs (without_jobs js items)) ≡ true = still_there j js items none (rw miss at there) in
          elim (bool_cases (has_job i.job js)) [ inl out ↦ rw out rest | inr stays ↦ rw stays (or_right (same_job j i.job) _ rest) ])
    ]

pub or_none : (a b : Bool) → (a || b) ≡ false → (a ≡ false) × (b ≡ false)
or_none true b e = absurd (cc)
or_none false b e = (refl, e)

-- jobs that are all claimed, none twice, are taken out, each with one item at least
pub without_many : (js : List Job) (items : List Item) → names_twice js ≡ false → list_all (λ j. has_job j (item_jobs items)) js ≡ true → length (without_jobs js items) + length js ≤ length items
without_many [] items once all = omega (arith, filter_le (λ (i : Item). not (has_job i.job [])) items)
without_many (j ∷ js) items once all =
    let dis : (has_job j js ≡ false) × (names_twice js ≡ false) = or_none (has_job j js) (names_twice js) once in
    let parts : (has_job j (item_jobs items) ≡ true) × (list_all (λ k. has_job k (item_jobs items)) js ≡ true) = and_parts _ _ all in
    let rest : length (without_jobs js items) + length js ≤ length items = without_many js items dis.1 parts.1 in
    let one : length (without_jobs (j ∷ []) (without_jobs js items)) + 1 ≤ length (without_jobs js items) =
    without_less (j ∷ []) (without_jobs js items) j (or_left (same_job j j) _ (job_self j)) (still_there j js items dis.0 parts.0) in
    rw (without_twice j js items) (omega arith)
