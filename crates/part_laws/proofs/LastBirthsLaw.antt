-- The errors of a failed copy are the charges of the job that was born last for it.
use Rattle.std.proofs.Common.{◌≡◌, ◌∙◌, ℕ, ◌+◌, ◌≤◌, inl, inr, List, [], ◌∷◌, ◌++◌, Bool, true, false, ◌&&◌, ◌||◌, refl, sym, ap, arith, length}
use Rattle.std.specs.Prelude.{Option, Some, None, if◌then◌else◌, ◌==◌, filter, map}
use Rattle.std.proofs.lemmas.Bool.{and_parts, eqb-true, eq-eqb}
use Rattle.cta_site.specs.declared.site.Site.{Site}
use Rattle.cta_model.specs.declared.entries.Entry.{Entry}
use Rattle.cta_model.specs.declared.asks.Job.{Job}
use Rattle.cta_model.specs.History.{History, is_number}
use Rattle.cta_model.specs.Mounts.{has_job, same_job, job_of}
use Rattle.cta_model.specs.Charges.{charges_of}
use Rattle.cta_model.specs.Stages.{charge_text}
use Rattle.cta_model.specs.Jobs.{jobs_born, newly_born, live_birth, is_live_job}
use Rattle.cta_model.specs.Reports.{errors_of_last, jobs_of_copy}
use Rattle.cta_model.specs.Legal.{IsLegal}
use Rattle.cta_laws.proofs.Tests.{bool_cases}
use Rattle.cta_laws.proofs.StandLaw.{born_once}
use Rattle.cta_laws.proofs.JobLaw.{among}
use Rattle.part_laws.proofs.Births.{has_both}
use Rattle.part_laws.proofs.Members.{counted_has}
use Rattle.part_laws.proofs.Born.{born_low, new_all, new_live, new_order}
use Rattle.cta_laws.proofs.Bools.{same_bool}
use Rattle.part_laws.proofs.Orders.{has_filter, one_order, order_filter}
use Rattle.part_model.specs.Order.{InOrder}
use Rattle.part_laws.specs.LastBirths.{LastBirthTellsErrors, errors_by, last_birth}

-- ---- the jobs of the newest entry

new_has : (site : Site) (h : History) (e : Entry) → IsLegal site (e ∷ h) → (j : Job) → has_job j (newly_born site h e) ≡ ((j.birth == length h + 1) && is_live_job site (e ∷ h) j)
new_has site h e legal j = same_bool (has_job j (newly_born site h e)) ((j.birth == length h + 1) && is_live_job site (e ∷ h) j)
    (λ there. rw (eq-eqb j.birth (length h + 1) (among (λ (k : Job). k.birth ≡ length h + 1) (newly_born site h e) (new_all site h e) j there)) (among (λ k. is_live_job site (e ∷ h) k ≡ true) (newly_born site h e) (new_live site h e) j there))
    (λ both. (let parts : (j.birth == length h + 1 ≡ true) × (is_live_job site (e ∷ h) j ≡ true) = and_parts _ _ both in
    let born : (has_job j (jobs_born site h) || has_job j (newly_born site h e)) ≡ true = sym (has_both j (jobs_born site h) (newly_born site h e)) ∙ counted_has j (jobs_born site (e ∷ h)) (born_once site (e ∷ h) legal j parts.1) in
    let birth : j.birth ≡ length h + 1 = eqb-true j.birth (length h + 1) parts.0 in
    let old : has_job j (jobs_born site h) ≡ false = elim (bool_cases (has_job j (jobs_born site h))) [ inl hit ↦ (let low : j.birth ≤ length h = among (λ (k : Job). k.birth ≤ length h) (jobs_born site h) (born_low site h) j hit in absurd (omega arith)) | inr miss ↦ miss ] in
    rw old at born))

of_copy : ℕ → ℕ → Job → Bool
of_copy f c j = j.file == f && j.copy == c

one_if : Bool → Job → List Job
one_if true j = j ∷ []
one_if false j = []

new_of_copy : (site : Site) (h : History) (e : Entry) (f c : ℕ) → IsLegal site (e ∷ h) → filter (λ (j : Job). j.file == f && j.copy == c) (newly_born site h e) ≡ one_if (is_number (length h + 1) (live_birth site (e ∷ h) f c)) (job_of (length h + 1) f c)
unfolding one_if
new_of_copy site h e f c legal =
    one_order (filter (λ (j : Job). j.file == f && j.copy == c) (newly_born site h e)) (one_if (is_number (length h + 1) (live_birth site (e ∷ h) f c)) (job_of (length h + 1) f c))
    (order_filter (λ (j : Job). j.file == f && j.copy == c) (newly_born site h e) (new_order site h e)) (in_order (is_number (length h + 1) (live_birth site (e ∷ h) f c)))
    (λ j. has_filter (λ (j : Job). j.file == f && j.copy == c) j (newly_born site h e) ∙ ap (λ (b : Bool). b && (j.file == f && j.copy == c)) (new_has site h e legal j) ∙ by j (j.file == f && j.copy == c) refl)
  where
    in_order : (t : Bool) → InOrder (one_if t (job_of (length h + 1) f c))
    in_order true = (tt, tt)
    in_order false = tt

    has_one : (t : Bool) (j : Job) → has_job j (one_if t (job_of (length h + 1) f c)) ≡ (same_job j (job_of (length h + 1) f c) && t)
    has_one true j = same_bool (same_job j (job_of (length h + 1) f c) || false) (same_job j (job_of (length h + 1) f c) && true) (λ x. grind arith) (λ x. grind arith)
    has_one false j = same_bool false (same_job j (job_of (length h + 1) f c) && false) (λ x. absurd (cc)) (λ x. grind arith)

    none : (a b : Bool) → ((a && b) && false) ≡ false
    none true true = refl
    none true false = refl
    none false b = refl

    and_true : (x : Bool) → (x && true) ≡ x
    and_true true = refl
    and_true false = refl

    by : (j : Job) (t : Bool) → (j.file == f && j.copy == c) ≡ t → (((j.birth == length h + 1) && is_live_job site (e ∷ h) j) && t) ≡ has_job j (one_if (is_number (length h + 1) (live_birth site (e ∷ h) f c)) (job_of (length h + 1) f c))
    by j false miss =
        (let other : same_job j (job_of (length h + 1) f c) ≡ false = elim (bool_cases (same_job j (job_of (length h + 1) f c))) [ inl hit ↦ (let bad : (j.file == f && j.copy == c) ≡ true = grind arith in absurd (cc)) | inr d ↦ d ] in
        none (j.birth == length h + 1) (is_live_job site (e ∷ h) j) ∙ sym (has_one (is_number (length h + 1) (live_birth site (e ∷ h) f c)) j ∙ rw other refl))
    by j true hit =
        (let parts : (j.file == f ≡ true) × (j.copy == c ≡ true) = and_parts (j.file == f) (j.copy == c) hit in
        let live : is_live_job site (e ∷ h) j ≡ is_number j.birth (live_birth site (e ∷ h) f c) = ap (λ (x : ℕ). is_number j.birth (live_birth site (e ∷ h) x j.copy)) (eqb-true j.file f parts.0) ∙ ap (λ (x : ℕ). is_number j.birth (live_birth site (e ∷ h) f x)) (eqb-true j.copy c parts.1) in
        let same : same_job j (job_of (length h + 1) f c) ≡ (j.birth == length h + 1) = rw (parts.0, parts.1) (and_true (j.birth == length h + 1)) in
        and_true ((j.birth == length h + 1) && is_live_job site (e ∷ h) j) ∙ ap (λ (b : Bool). (j.birth == length h + 1) && b) live ∙ at j (j.birth == length h + 1) refl
        ∙ sym (has_one (is_number (length h + 1) (live_birth site (e ∷ h) f c)) j ∙ ap (λ (b : Bool). b && is_number (length h + 1) (live_birth site (e ∷ h) f c)) same))
      where
        at : (j : Job) (t : Bool) → (j.birth == length h + 1) ≡ t → (t && is_number j.birth (live_birth site (e ∷ h) f c)) ≡ (t && is_number (length h + 1) (live_birth site (e ∷ h) f c))
        at j true hit = ap (λ (n : ℕ). is_number n (live_birth site (e ∷ h) f c)) (eqb-true j.birth (length h + 1) hit)
        at j false miss = refl

-- ---- the last of a list

last_job : List Job → Option Job → Option Job
last_job [] o = o
last_job (j ∷ js) o = last_job js (Some j)

errors_in : Site → History → Option Job → List (List ℕ)
errors_in site h None = []
errors_in site h (Some j) = map (charge_text site) (charges_of h j)

last_errors : (site : Site) (h : History) (j : Job) (js : List Job) → errors_of_last site h (j ∷ js) ≡ errors_in site h (last_job js (Some j))
unfolding last_job errors_in
last_errors site h j [] = refl
last_errors site h j (k ∷ js) = last_errors site h k js

all_errors : (site : Site) (h : History) (js : List Job) → errors_of_last site h js ≡ errors_in site h (last_job js None)
unfolding last_job errors_in
all_errors site h [] = refl
all_errors site h (j ∷ js) = last_errors site h j js

last_one : (js : List Job) (t : Bool) (j : Job) (o : Option Job) → last_job (js ++ one_if t j) o ≡ (if t then Some j else last_job js o)
unfolding last_job one_if
last_one [] true j o = refl
last_one [] false j o = refl
last_one (k ∷ js) t j o = last_one js t j (Some k)

filter_both : (test : Job → Bool) (xs ys : List Job) → filter test (xs ++ ys) ≡ filter test xs ++ filter test ys
filter_both test [] ys = refl
filter_both test (x ∷ xs) ys = elim (test x) as (λ b. (if b then x ∷ filter test (xs ++ ys) else filter test (xs ++ ys)) ≡ (if b then x ∷ filter test xs else filter test xs) ++ filter test ys) [ true ↦ ap (λ (zs : List Job). x ∷ zs) (filter_both test xs ys) | false ↦ filter_both test xs ys ]

job_if : ℕ → ℕ → Option ℕ → Option Job
job_if f c None = None
job_if f c (Some b) = Some (job_of b f c)

last_is : (site : Site) (h : History) → IsLegal site h → (f c : ℕ) → last_job (jobs_of_copy site h f c) None ≡ job_if f c (last_birth site h f c)
unfolding last_job job_if
last_is site [] legal f c = refl
last_is site (e ∷ h) legal f c =
    ap (λ (js : List Job). last_job js None) (filter_both (λ (j : Job). j.file == f && j.copy == c) (jobs_born site h) (newly_born site h e) ∙ ap (λ (js : List Job). jobs_of_copy site h f c ++ js) (new_of_copy site h e f c legal))
    ∙ last_one (jobs_of_copy site h f c) (is_number (length h + 1) (live_birth site (e ∷ h) f c)) (job_of (length h + 1) f c) None
    ∙ ap (λ (o : Option Job). if is_number (length h + 1) (live_birth site (e ∷ h) f c) then Some (job_of (length h + 1) f c) else o) (last_is site h legal.0 f c)
    ∙ by (is_number (length h + 1) (live_birth site (e ∷ h) f c)) (last_birth site h f c)
  where
    by : (t : Bool) (o : Option ℕ) → (if t then Some (job_of (length h + 1) f c) else job_if f c o) ≡ job_if f c (if t then Some (length h + 1) else o)
    by true o = refl
    by false o = refl

pub last_birth_tells_errors : LastBirthTellsErrors
unfolding errors_in job_if
last_birth_tells_errors site h legal f c = all_errors site h (jobs_of_copy site h f c) ∙ ap (errors_in site h) (last_is site h legal f c) ∙ by (last_birth site h f c)
  where
    by : (o : Option ℕ) → errors_in site h (job_if f c o) ≡ errors_by site h f c o
    by None = refl
    by (Some b) = refl
