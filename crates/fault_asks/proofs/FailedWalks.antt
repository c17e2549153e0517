-- The failed copies of a file, walked one by one.
use Rattle.std.proofs.Common.{◌≡◌, ◌∙◌, ℕ, ◌≤◌, ◌<◌, inl, inr, List, [], ◌∷◌, ◌++◌, Bool, true, false, refl, sym, ap, subst, arith, length, append_assoc}
use Rattle.std.specs.Prelude.{Option, Some, None, if◌then◌else◌, ◌==◌, filter, map}
use Rattle.std.specs.List.{AllByRecursion}
use Rattle.std.proofs.lemmas.Bool.{eqb-true}
use Rattle.std.proofs.lemmas.List.{append-nil}
use Rattle.cta_model.specs.declared.asks.Job.{Job}
use Rattle.cta_model.specs.Mounts.{job_of}
use Rattle.cta_laws.proofs.Tests.{bool_cases}
use Rattle.part_model.specs.Order.{first_job, goes_before, next_job, walk_at}
use Rattle.part_laws.proofs.Orders.{before_more}
use Rattle.part_laws.proofs.Walks.{walk_goes_on}
use Rattle.part_laws.specs.Operators.{failed_of, retried_with}
use Rattle.fault_asks.specs.Retrying.{AreCopies}

-- the job that a walk has come to is behind copy 0 of the file, and has birth 0
abbrev pub IsLater : ℕ → Option Job → Type 0
IsLater f None = Unit {0}
IsLater f (Some j) = (goes_before (job_of 0 f 0) j ≡ true) × (j.birth ≡ 0)

first_passes : (test : Job → Bool) (q : List Job) (k : Job) → AllByRecursion (λ (j : Job). j.birth ≡ 0) q → first_job (filter test q) ≡ Some k → (test k ≡ true) × (k.birth ≡ 0)
first_passes test [] k births is = absurd (cc)
first_passes test (j ∷ q) k births is =
    elim (bool_cases (test j)) [
      | inl hit ↦ (let here : Some j ≡ Some k = rw hit at is in let same : j ≡ k = cc in (subst (λ (x : Job). test x ≡ true) same hit, subst (λ (x : Job). x.birth ≡ 0) same births.0))
      | inr miss ↦ first_passes test q k births.1 (rw miss at is)
    ]

later_by : (f : ℕ) (j : Job) (q : List Job) (o : Option Job) → AllByRecursion (λ (j : Job). j.birth ≡ 0) q → ((k : Job) → goes_before j k ≡ true → goes_before (job_of 0 f 0) k ≡ true) → next_job j q ≡ o → IsLater f o
later_by f j q None births on is = tt
later_by f j q (Some k) births on is = (let p = first_passes (goes_before j) q k births is in (on k p.0, p.1))

-- the failed copy that a walk goes on to has birth 0
pub next_birth : (q : List Job) (j k : Job) → AreCopies q → next_job j q ≡ Some k → k.birth ≡ 0
next_birth q j k are is = (first_passes (goes_before j) q k are.births is).1

pub first_birth : (q : List Job) (k : Job) → AreCopies q → first_job q ≡ Some k → k.birth ≡ 0
first_birth [] k are is = absurd (cc)
first_birth (j ∷ q) k are is = (let same : j ≡ k = cc in subst (λ (x : Job). x.birth ≡ 0) same are.births.0)

-- ---- the start

file_behind : (f : ℕ) (q : List Job) → AllByRecursion (λ (j : Job). j.birth ≡ 0) q → AllByRecursion (λ (j : Job). 1 ≤ j.copy) q → failed_of f (filter (goes_before (job_of 0 f 0)) q) ≡ failed_of f q
file_behind f [] births copies = refl
file_behind f (j ∷ q) births copies =
    elim (bool_cases (j.file == f)) [
      | inl hit ↦
          (let birth : j.birth ≡ 0 = births.0 in
          let copy : 1 ≤ j.copy = copies.0 in
          let file : j.file ≡ f = eqb-true j.file f hit in
          let behind : goes_before (job_of 0 f 0) j ≡ true = grind arith in
          rw behind (rw hit (ap (λ (cs : List ℕ). j.copy ∷ cs) (file_behind f q births.1 copies.1))))
      | inr miss ↦
          elim (bool_cases (goes_before (job_of 0 f 0) j)) [
            | inl behind ↦ rw behind (rw miss (file_behind f q births.1 copies.1))
            | inr before ↦ rw before (rw miss (file_behind f q births.1 copies.1))
          ]
    ]

pub walk_begins : (n f : ℕ) (q : List Job) (o : Option Job) (js : List Job) → AreCopies q → o ≡ next_job (job_of 0 f 0) q → js ++ retried_with n (walk_at o q) (Some f) ≡ js ++ retried_with n q (Some f)
walk_begins n f q o js are is =
    ap (λ (x : Option Job). js ++ retried_with n (walk_at x q) (Some f)) is
    ∙ ap (λ (xs : List Job). js ++ retried_with n xs (Some f)) (walk_goes_on (job_of 0 f 0) q are.order)
    ∙ ap (λ (cs : List ℕ). js ++ map (job_of n f) cs) (file_behind f q are.births are.copies)

pub later_begins : (f : ℕ) (q : List Job) (o : Option Job) → AreCopies q → o ≡ next_job (job_of 0 f 0) q → IsLater f o
later_begins f q o are is = later_by f (job_of 0 f 0) q o are.births (λ k e. e) (sym is)

-- ---- a step

same_row : (j : Job) → j.birth ≡ 0 → job_of 0 j.file j.copy ≡ j
same_row j e = ap (λ (n : ℕ). job_of n j.file j.copy) (sym e)

-- the walk goes on behind this job
pub goes_on : (q : List Job) (j : Job) (o : Option Job) → AreCopies q → j.birth ≡ 0 → o ≡ next_job (job_of 0 j.file j.copy) q → walk_at o q ≡ filter (goes_before j) q
goes_on q j o are birth is = ap (λ (x : Option Job). walk_at x q) (is ∙ ap (λ (i : Job). next_job i q) (same_row j birth)) ∙ walk_goes_on j q are.order

pub walk_steps : (n f : ℕ) (q : List Job) (j : Job) (o : Option Job) (js js' all : List Job) → AreCopies q → j.birth ≡ 0 → (j.file == f) ≡ true → o ≡ next_job (job_of 0 j.file j.copy) q → js' ≡ js ++ job_of n f j.copy ∷ []
    → js ++ retried_with n (walk_at (Some j) q) (Some f) ≡ all → js' ++ retried_with n (walk_at o q) (Some f) ≡ all
walk_steps n f q j o js js' all are birth hit is pushed was =
    ap (λ (xs : List Job). xs ++ retried_with n (walk_at o q) (Some f)) pushed
    ∙ append_assoc js (job_of n f j.copy ∷ []) (retried_with n (walk_at o q) (Some f))
    ∙ ap (λ (xs : List Job). js ++ job_of n f j.copy ∷ retried_with n xs (Some f)) (goes_on q j o are birth is)
    ∙ sym (ap (λ (b : Bool). js ++ map (job_of n f) (map (λ (i : Job). i.copy) (if b then j ∷ filter (λ (i : Job). i.file == f) (filter (goes_before j) q) else filter (λ (i : Job). i.file == f) (filter (goes_before j) q)))) hit)
    ∙ was

pub later_steps : (f : ℕ) (q : List Job) (j : Job) (o : Option Job) → AreCopies q → IsLater f (Some j) → o ≡ next_job (job_of 0 j.file j.copy) q → IsLater f o
later_steps f q j o are later is = later_by f j q o are.births (λ k e. before_more (job_of 0 f 0) j k later.0 e) (sym (is ∙ ap (λ (i : Job). next_job i q) (same_row j later.1)))

pub walk_shrinks : (q : List Job) (j : Job) (o : Option Job) → AreCopies q → j.birth ≡ 0 → o ≡ next_job (job_of 0 j.file j.copy) q → length (walk_at o q) < length (walk_at (Some j) q)
walk_shrinks q j o are birth is = (let e : length (walk_at o q) ≡ length (filter (goes_before j) q) = ap length (goes_on q j o are birth is) in omega (arith, e))

-- ---- the end

past_file : (f : ℕ) (j : Job) (q : List Job) → AllByRecursion (λ (i : Job). i.birth ≡ 0) q → j.birth ≡ 0 → f < j.file → failed_of f (filter (goes_before j) q) ≡ []
past_file f j [] births birth high = refl
past_file f j (i ∷ q) births birth high =
    elim (bool_cases (goes_before j i)) [
      | inl behind ↦ (let zero_birth : i.birth ≡ 0 = births.0 in let other : (i.file == f) ≡ false = grind arith in rw behind (rw other (past_file f j q births.1 birth high)))
      | inr before ↦ rw before (past_file f j q births.1 birth high)
    ]

pub walk_leaves : (n f : ℕ) (q : List Job) (j : Job) (js all : List Job) → AreCopies q → IsLater f (Some j) → (j.file == f) ≡ false → js ++ retried_with n (walk_at (Some j) q) (Some f) ≡ all → js ≡ all
walk_leaves n f q j js all are later miss was =
    let behind : goes_before (job_of 0 f 0) j ≡ true = later.0 in
    let birth : j.birth ≡ 0 = later.1 in
    let high : f < j.file = grind arith in
    let none : failed_of f (walk_at (Some j) q) ≡ [] = rw miss (past_file f j q are.births birth high) in
    sym (append-nil js) ∙ sym (ap (λ (cs : List ℕ). js ++ map (job_of n f) cs) none) ∙ was

pub walk_ends : (n f : ℕ) (q js all : List Job) (o : Option Job) → o ≡ None → js ++ retried_with n (walk_at o q) (Some f) ≡ all → js ≡ all
walk_ends n f q js all o is was = sym (append-nil js) ∙ sym (ap (λ (x : Option Job). js ++ retried_with n (walk_at x q) (Some f)) is) ∙ was

-- ---- tests

pub other : (a b : ℕ) → (a ≡ b → ⊥) → (a == b) ≡ false
other a b differ = elim (bool_cases (a == b)) [ inl hit ↦ absurd (differ (eqb-true a b hit)) | inr miss ↦ miss ]
