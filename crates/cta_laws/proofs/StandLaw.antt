-- A live job stands in one queue once, or is claimed.
use Rattle.std.proofs.Common.{◌≡◌, ℕ, zero, suc, ◌+◌, ◌≤◌, ◌<◌, inl, inr, List, [], ◌∷◌, ◌++◌, Bool, true, false, refl, sym, ◌∙◌, ap, subst, arith, length}
use Rattle.std.specs.Prelude.{Option, Some, None, if◌then◌else◌, ◌==◌, filter, find, map}
use Rattle.std.specs.List.{flat_map, range_with_len}
use Rattle.std.proofs.lemmas.Bool.{eq-eqb, cases_lt}
use Rattle.cta_site.specs.declared.site.Site.{Site}
use Rattle.cta_model.specs.declared.entries.Entry.{Entry}
use Rattle.cta_model.specs.declared.asks.Ask.{Ask}
use Rattle.cta_model.specs.declared.asks.Ask.TheVariants as ask
use Rattle.cta_model.specs.declared.asks.Fate.TheVariants as fate
use Rattle.cta_model.specs.declared.answers.Answer.{Answer}
use Rattle.cta_model.specs.declared.answers.Answer.TheVariants as answer
use Rattle.cta_model.specs.declared.asks.Job.{Job}
use Rattle.cta_model.specs.declared.asks.Direction.{Direction}
use Rattle.cta_model.specs.History.{History, has_number, is_number, entry_numbers}
use Rattle.cta_model.specs.Files.{copies_of_file, copy_numbers}
use Rattle.cta_model.specs.Mounts.{claimer_of, is_open, same_job, has_job, item_jobs, claimed_items, open_mounts, claims, job_of}
use Rattle.cta_model.specs.Recalls.{Recall, live_recall, recall_after, recall_goes_on, bears_recall}
use Rattle.cta_model.specs.Jobs.{jobs_born, newly_born, jobs_for, may_bear, live_birth, is_live_job, archive_birth, archive_after, bears_archive, ends_archive}
use Rattle.cta_model.specs.Queues.{queue_of, is_queued}
use Rattle.cta_model.specs.Legal.{IsLegal}
use Rattle.cta_laws.specs.Jobs.{count_job}
use Rattle.cta_laws.proofs.Tests.{bool_cases, or_left, or_right}
use Rattle.cta_laws.proofs.OnceLaw.{same_job_eq, birth_in, goes_on_ended}
use Rattle.cta_laws.proofs.EndLaw.{live_before, job_stays_ended}
use Rattle.cta_laws.proofs.JobLists.{job_self}
use Rattle.cta_laws.proofs.RangeLaw.{InRange, job_range}

-- ---- the mount that claims a job

pub found : (test : ℕ → Bool) (ms : List ℕ) (m : ℕ) → find test ms ≡ Some m → (has_number m ms ≡ true) × (test m ≡ true)
found test [] m e = absurd (cc)
found test (k ∷ ms) m e =
    elim (bool_cases (test k)) [
      | inl hit ↦ (let there : Some k ≡ Some m = rw hit at e in let same : k ≡ m = cc in (or_left (m == k) _ (eq-eqb m k (sym same)), subst (λ (x : ℕ). test x ≡ true) same hit))
      | inr miss ↦ (let rest : (has_number m ms ≡ true) × (test m ≡ true) = found test ms m (rw miss at e) in (or_right (m == k) _ rest.0, rest.1))
    ]

pub claimer_is_open : (h : History) (j : Job) (m : ℕ) → claimer_of h j ≡ Some m → (is_open h m ≡ true) × (claims h m j ≡ true)
claimer_is_open h j m e = found (λ k. has_job j (item_jobs (claimed_items h k))) (open_mounts h) m e

-- ---- counts

pub count_append : (j : Job) (xs ys : List Job) → count_job j (xs ++ ys) ≡ count_job j xs + count_job j ys
count_append j [] ys = omega arith
count_append j (x ∷ xs) ys = omega (arith, count_append j xs ys)

pub count_filter : (j : Job) (test : Job → Bool) (xs : List Job) → count_job j (filter test xs) ≡ (if test j then count_job j xs else 0)
count_filter j test [] = elim (test j) as (λ b. 0 ≡ (if b then count_job j [] else 0)) [ true ↦ refl | false ↦ refl ]
count_filter j test (x ∷ xs) =
    elim (bool_cases (same_job j x)) [
      | inl hit ↦
          (let same : j ≡ x = same_job_eq j x hit in
          elim (bool_cases (test j)) [
            | inl pass ↦
                (let here : test x ≡ true = subst (λ (k : Job). test k ≡ true) same pass in
                let rest : count_job j (filter test xs) ≡ count_job j xs = count_filter j test xs ∙ if_true (test j) (count_job j xs) pass in
                rw (here, pass) (rw (hit, rest) refl))
            | inr fail ↦
                (let here : test x ≡ false = subst (λ (k : Job). test k ≡ false) same fail in
                let rest : count_job j (filter test xs) ≡ 0 = count_filter j test xs ∙ if_false (test j) (count_job j xs) fail in
                rw (here, fail) rest)
          ])
      | inr miss ↦
          elim (bool_cases (test x)) [
            | inl pass ↦ rw (pass, miss) (skip (test j) (count_job j (filter test xs)) (count_job j xs) (count_filter j test xs))
            | inr fail ↦ rw (fail, miss) (skip_both (test j) (count_job j (filter test xs)) (count_job j xs) (count_filter j test xs))
          ]
    ]
  where
    skip : (b : Bool) (n m : ℕ) → n ≡ (if b then m else 0) → 0 + n ≡ (if b then 0 + m else 0)
    skip true n m e = omega arith
    skip false n m e = omega arith

    skip_both : (b : Bool) (n m : ℕ) → n ≡ (if b then m else 0) → n ≡ (if b then 0 + m else 0)
    skip_both true n m e = omega arith
    skip_both false n m e = omega arith

    if_true : (b : Bool) (n : ℕ) → b ≡ true → (if b then n else 0) ≡ n
    if_true true n e = refl
    if_true false n e = absurd (cc)

    if_false : (b : Bool) (n : ℕ) → b ≡ false → (if b then n else 0) ≡ 0
    if_false true n e = absurd (cc)
    if_false false n e = refl

-- ---- the jobs of a birth

pub not_same : (j k : Job) → (j ≡ k → ⊥) → same_job j k ≡ false
not_same j k other = elim (bool_cases (same_job j k)) [ inl hit ↦ absurd (other (same_job_eq j k hit)) | inr miss ↦ miss ]

pub file_differs : (j : Job) (b f c : ℕ) → (j.file ≡ f → ⊥) → same_job j (job_of b f c) ≡ false
file_differs j b f c d = not_same j (job_of b f c) (λ e. d (ap (λ (x : Job). x.file) e))

pub copy_differs : (j : Job) (b f c : ℕ) → (j.copy ≡ c → ⊥) → same_job j (job_of b f c) ≡ false
copy_differs j b f c d = not_same j (job_of b f c) (λ e. d (ap (λ (x : Job). x.copy) e))

pub birth_differs : (j : Job) (b f c : ℕ) → (j.birth ≡ b → ⊥) → same_job j (job_of b f c) ≡ false
birth_differs j b f c d = not_same j (job_of b f c) (λ e. d (ap (λ (x : Job). x.birth) e))

pub map_miss : (j : Job) (b f : ℕ) (copies : List ℕ) → ((c : ℕ) → same_job j (job_of b f c) ≡ false) → count_job j (map (job_of b f) copies) ≡ 0
map_miss j b f [] d = refl
map_miss j b f (c ∷ copies) d = rw (d c) (omega (arith, map_miss j b f copies d))

above_miss : (j : Job) (b f a n : ℕ) → j.copy < a → count_job j (map (job_of b f) (range_with_len a n)) ≡ 0
above_miss j b f a zero low = refl
above_miss j b f a (suc n) low = rw (copy_differs j b f a (λ e. omega arith)) (omega (arith, above_miss j b f (a + 1) n (omega arith)))

copy_hit : (j : Job) (a n : ℕ) → a ≤ j.copy → j.copy < a + n → count_job j (map (job_of j.birth j.file) (range_with_len a n)) ≡ 1
copy_hit j a zero low high = absurd (omega arith)
copy_hit j a (suc n) low high =
    elim (cases_lt a j.copy) [
      | inl more ↦ rw (copy_differs j j.birth j.file a (λ e. omega arith)) (omega (arith, copy_hit j (a + 1) n (omega arith) (omega arith)))
      | inr less ↦
          (let same : a ≡ j.copy = omega arith in
          let hit : same_job j (job_of j.birth j.file a) ≡ true = subst (λ (c : ℕ). same_job j (job_of j.birth j.file c) ≡ true) (sym same) (job_self j) in
          rw hit (omega (arith, above_miss j j.birth j.file (a + 1) n (omega arith))))
    ]

-- a job is once among those that there may be for its file
file_hit : (site : Site) (h : History) (j : Job) → j.copy ≤ copies_of_file site h j.file → count_job j (jobs_for site h j.birth j.file) ≡ 1
file_hit site h j fits =
    elim (cases_lt 0 j.copy) [
      | inl more ↦ rw (copy_differs j j.birth j.file 0 (λ e. omega arith)) (omega (arith, copy_hit j 1 (copies_of_file site h j.file) more (omega arith)))
      | inr less ↦
          (let same : 0 ≡ j.copy = omega arith in
          let hit : same_job j (job_of j.birth j.file 0) ≡ true = subst (λ (c : ℕ). same_job j (job_of j.birth j.file c) ≡ true) (sym same) (job_self j) in
          rw hit (omega (arith, above_miss j j.birth j.file 1 (copies_of_file site h j.file) (omega arith))))
    ]

files_miss : (site : Site) (h : History) (j : Job) (b a n : ℕ) → ((f c : ℕ) → a ≤ f → same_job j (job_of b f c) ≡ false) → count_job j (flat_map (jobs_for site h b) (range_with_len a n)) ≡ 0
files_miss site h j b a zero d = refl
files_miss site h j b a (suc n) d =
    omega (arith, count_append j (jobs_for site h b a) (flat_map (jobs_for site h b) (range_with_len (a + 1) n)), map_miss j b a (0 ∷ copy_numbers site h a) (λ c. d a c (omega arith)), files_miss site h j b (a + 1) n (λ f c low. d f c (omega arith)))

files_hit : (site : Site) (h : History) (j : Job) (a n : ℕ) → a ≤ j.file → j.file < a + n → j.copy ≤ copies_of_file site h j.file → count_job j (flat_map (jobs_for site h j.birth) (range_with_len a n)) ≡ 1
files_hit site h j a zero low high fits = absurd (omega arith)
files_hit site h j a (suc n) low high fits =
    elim (cases_lt a j.file) [
      | inl more ↦
          (let miss : count_job j (jobs_for site h j.birth a) ≡ 0 = map_miss j j.birth a (0 ∷ copy_numbers site h a) (λ c. file_differs j j.birth a c (λ e. omega arith)) in
          omega (arith, count_append j (jobs_for site h j.birth a) (flat_map (jobs_for site h j.birth) (range_with_len (a + 1) n)), files_hit site h j (a + 1) n (omega arith) (omega arith) fits))
      | inr less ↦
          (let same : j.file ≡ a = omega arith in
          let hit : count_job j (jobs_for site h j.birth a) ≡ 1 = subst (λ (f : ℕ). count_job j (jobs_for site h j.birth f) ≡ 1) same (file_hit site h j fits) in
          omega (arith, count_append j (jobs_for site h j.birth a) (flat_map (jobs_for site h j.birth) (range_with_len (a + 1) n)), files_miss site h j j.birth (a + 1) n (λ f c low2. file_differs j j.birth f c (λ e. omega arith))))
    ]

-- what is newly born has the next number as its birth
new_miss : (site : Site) (h : History) (e : Entry) (j : Job) → (j.birth ≡ length h + 1 → ⊥) → count_job j (newly_born site h e) ≡ 0
new_miss site h e j d = by (may_bear e.ask)
  where
    when : (b : Bool) (n : ℕ) → n ≡ 0 → (if b then n else 0) ≡ 0
    when true n e = e
    when false n e = refl

    by : (b : Bool) → count_job j (if b then filter (is_live_job site (e ∷ h)) (flat_map (jobs_for site (e ∷ h) (length h + 1)) (entry_numbers (e ∷ h))) else []) ≡ 0
    by true =
        count_filter j (is_live_job site (e ∷ h)) (flat_map (jobs_for site (e ∷ h) (length h + 1)) (entry_numbers (e ∷ h)))
        ∙ when (is_live_job site (e ∷ h) j) _ (files_miss site (e ∷ h) j (length h + 1) 1 (length (e ∷ h)) (λ f c low. birth_differs j (length h + 1) f c d))
    by false = refl

pub not_born : (site : Site) (h : History) (j : Job) → length h < j.birth → count_job j (jobs_born site h) ≡ 0
not_born site [] j high = refl
not_born site (e ∷ h) j high = omega (arith, count_append j (jobs_born site h) (newly_born site h e), not_born site h j (omega arith), new_miss site h e j (λ x. omega arith))

-- ---- what bears a job

pub recall_bears : (site : Site) (h : History) (k : Ask) (f : ℕ) → bears_recall site h k f ≡ true → may_bear k ≡ true
recall_bears site h (ask.Stage who files) f b = refl
recall_bears site h (ask.Repack who v) f b = refl
recall_bears site h _ f b = absurd (cc)

pub archive_bears : (site : Site) (h : History) (k : Ask) (a : Answer) (f c : ℕ) → bears_archive site h k a f c ≡ true → may_bear k ≡ true
archive_bears site h (ask.Put who path sum) a f c b = refl
archive_bears site h (ask.Retry who paths) (answer.Retried jobs) f c b = refl
archive_bears site h (ask.Repack who v) (answer.Repacking id items) f c b = refl
archive_bears site h (ask.Recalled m job) (answer.Arrived fate.Done) f c b = refl
archive_bears site h _ a f c b = absurd (cc)

-- an entry after which a job lives that did not live before may bear jobs
pub recall_new : (site : Site) (h : History) (e : Entry) (f b : ℕ) (o : Option Recall) → is_number b (birth_in o) ≡ false → is_number b (birth_in (recall_after site h e f o)) ≡ true → may_bear e.ask ≡ true
recall_new site h e f b None d on =
    elim (bool_cases (bears_recall site h e.ask f))
    [ inl t ↦ recall_bears site h e.ask f t | inr t ↦ (let bad : false ≡ true = rw t at on in absurd (cc)) ]
recall_new site h e f b (Some r) d on = (let ended : is_number b (birth_in (recall_goes_on site h e f r e.ask e.answer)) ≡ false = goes_on_ended site h e f r b d e.ask e.answer in absurd (cc))

pub archive_new : (site : Site) (h : History) (e : Entry) (f c b : ℕ) (o : Option ℕ) → is_number b o ≡ false → is_number b (archive_after site h e f c o) ≡ true → may_bear e.ask ≡ true
archive_new site h e f c b None d on =
    elim (bool_cases (bears_archive site h e.ask e.answer f c))
    [ inl t ↦ archive_bears site h e.ask e.answer f c t | inr t ↦ (let bad : false ≡ true = rw t at on in absurd (cc)) ]
archive_new site h e f c b (Some birth) d on =
    elim (bool_cases (ends_archive site h e.ask e.answer (job_of birth f c)))
    [ inl t ↦ (let bad : false ≡ true = rw t at on in absurd (cc)) | inr t ↦ (let bad : is_number b (Some birth) ≡ true = rw t at on in absurd (cc)) ]

pub birth_new : (site : Site) (h : History) (e : Entry) (f c b : ℕ) → is_number b (live_birth site h f c) ≡ false → is_number b (live_birth site (e ∷ h) f c) ≡ true → may_bear e.ask ≡ true
birth_new site h e f zero b d on = recall_new site h e f b (live_recall site h f) d on
birth_new site h e f (suc c) b d on = archive_new site h e f (suc c) b (archive_birth site h f (suc c)) d on

-- ---- each live job was born once

pub born_by : (site : Site) (h : History) (e : Entry) (j : Job) → IsLegal site (e ∷ h) → is_live_job site h j ≡ false → is_live_job site (e ∷ h) j ≡ true → j.birth ≡ length h + 1
born_by site h e j legal was live =
    let low : j.birth ≤ length h + 1 = (let x : j.birth ≤ length (e ∷ h) = live_before site (e ∷ h) j live in omega arith) in
    elim (cases_lt j.birth (length h + 1))
    [ inl less ↦ (let bad : is_live_job site (e ∷ h) j ≡ false = job_stays_ended site h e j (omega arith) was in absurd (cc)) | inr more ↦ omega arith ]

pub born_once : (site : Site) (h : History) → IsLegal site h → (j : Job) → is_live_job site h j ≡ true → count_job j (jobs_born site h) ≡ 1
born_once site [] legal j live = absurd (nothing_lives j.copy live)
  where
    nothing_lives : (c : ℕ) → is_number j.birth (live_birth site [] j.file c) ≡ true → ⊥
    nothing_lives zero x = absurd (cc)
    nothing_lives (suc c) x = absurd (cc)
born_once site (e ∷ h) legal j live =
    elim (bool_cases (is_live_job site h j)) [
      | inl was ↦
          (let low : j.birth ≤ length h = live_before site h j was in
          let old : count_job j (jobs_born site h) ≡ 1 = born_once site h legal.0 j was in
          omega (arith, count_append j (jobs_born site h) (newly_born site h e), new_miss site h e j (λ x. omega arith)))
      | inr was ↦
          (let birth : j.birth ≡ length h + 1 = born_by site h e j legal was live in
          let range : InRange site (e ∷ h) j = job_range site (e ∷ h) legal j live in
          let old : count_job j (jobs_born site h) ≡ 0 = not_born site h j (omega arith) in
          let bears : may_bear e.ask ≡ true = birth_new site h e j.file j.copy j.birth was live in
          let hit : count_job j (flat_map (jobs_for site (e ∷ h) j.birth) (entry_numbers (e ∷ h))) ≡ 1 = files_hit site (e ∷ h) j 1 (length (e ∷ h)) range.0 (above range.1) range.2 in
          let there : count_job j (flat_map (jobs_for site (e ∷ h) (length h + 1)) (entry_numbers (e ∷ h))) ≡ 1 = subst (λ (b : ℕ). count_job j (flat_map (jobs_for site (e ∷ h) b) (entry_numbers (e ∷ h))) ≡ 1) birth hit in
          let new : count_job j (newly_born site h e) ≡ 1 = rw bears (count_filter j (is_live_job site (e ∷ h)) (flat_map (jobs_for site (e ∷ h) (length h + 1)) (entry_numbers (e ∷ h))) ∙ rw live there) in
          omega (arith, count_append j (jobs_born site h) (newly_born site h e)))
    ]
  where
    above : j.file ≤ length (e ∷ h) → j.file < 1 + length (e ∷ h)
    above x = omega arith

pub stands_once : (site : Site) (h : History) → IsLegal site h → (j : Job) → is_live_job site h j ≡ true → (way : Direction) (key : ℕ) → count_job j (queue_of site h way key) ≡ (if is_queued site h way key j then 1 else 0)
stands_once site h legal j live way key =
    count_filter j (is_queued site h way key) (jobs_born site h) ∙ ap (λ (n : ℕ). if is_queued site h way key j then n else 0) (born_once site h legal j live)
