-- Lines of a queue without some jobs.
use Rattle.std.proofs.Common.{◌≡◌, ◌∙◌, ℕ, inl, inr, List, [], ◌∷◌, Bool, true, false, ◌||◌, not, refl, sym, ap}
use Rattle.std.specs.Prelude.{◌==◌, if◌then◌else◌, filter}
use Rattle.std.proofs.lemmas.Bool.{eq-eqb}
use Rattle.cta_model.specs.declared.asks.Job.{Job}
use Rattle.cta_model.specs.Mounts.{has_job, same_job}
use Rattle.cta_laws.proofs.Tests.{bool_cases}
use Rattle.part_model.specs.declared.jobs.Line.{Line}
use Rattle.part_model.specs.Queues.{Lines, drop_jobs, taken_out}
use Rattle.part_laws.proofs.Orders.{not_either, same_flip}
use Rattle.job_queues.specs.Waiting.{jobs_of}

-- the lines without these jobs
abbrev pub left : List Job → List Line → List Line
left js ls = filter (λ (l : Line). not (has_job l.job js)) ls

pub none_or : (b : Bool) → b ≡ false → (b || false) ≡ false
none_or b e = rw e refl

-- what is not there leaves nothing
pub absent_stays : (j : Job) (ls : List Line) → has_job j (jobs_of ls) ≡ false → left (j ∷ []) ls ≡ ls
absent_stays j [] e = refl
absent_stays j (l ∷ ls) e =
    let parts = not_either (same_job j l.job) (has_job j (jobs_of ls)) e in
    let stays : has_job l.job (j ∷ []) ≡ false = none_or (same_job l.job j) (same_flip j l.job parts.0) in
    rw stays (ap (λ (ks : List Line). l ∷ ks) (absent_stays j ls parts.1))

-- who is there was there
pub was_there : (i : Job) (js : List Job) (ls : List Line) → has_job i (jobs_of (left js ls)) ≡ true → has_job i (jobs_of ls) ≡ true
was_there i js [] e = e
was_there i js (l ∷ ls) e = by (has_job l.job js) (same_job i l.job) refl (λ x. was_there i js ls x) e
  where
    by : (a b : Bool) → same_job i l.job ≡ b → (has_job i (jobs_of (left js ls)) ≡ true → has_job i (jobs_of ls) ≡ true) → has_job i (jobs_of (if not a then l ∷ left js ls else left js ls)) ≡ true → (b || has_job i (jobs_of ls)) ≡ true
    by a true is rest x = refl
    by true false is rest x = rest x
    by false false is rest x = rest (rw is at x)

-- it stands nowhere
pub stands_nowhere : (j : Job) (lines : Lines) (k : ℕ) → (has_job j (jobs_of (lines k)) ≡ true → ⊥) → lines k ≡ drop_jobs (j ∷ []) lines k
stands_nowhere j lines k none = elim (bool_cases (has_job j (jobs_of (lines k)))) [ inl there ↦ absurd (none there) | inr away ↦ sym (absent_stays j (lines k) away) ]

-- it is taken from the one key under which it may stand
pub taken_from : (j : Job) (old now : Lines) (key k : ℕ) → now k ≡ taken_out key (j ∷ []) old k → (has_job j (jobs_of (old k)) ≡ true → k ≡ key) → now k ≡ drop_jobs (j ∷ []) old k
taken_from j old now key k taken alone =
    taken ∙ elim (bool_cases (k == key)) [
      | inl hit ↦ rw hit refl
      | inr miss ↦ rw miss (stands_nowhere j old k (λ there. (let same : (k == key) ≡ true = eq-eqb k key (alone there) in let bad : true ≡ false = sym same ∙ miss in absurd (cc))))
    ]

pub none_dropped : (ls : List Line) → ls ≡ left [] ls
none_dropped [] = refl
none_dropped (l ∷ ls) = ap (λ (ks : List Line). l ∷ ks) (none_dropped ls)
