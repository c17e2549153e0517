-- All jobs that were ever born are in order.
use Rattle.std.proofs.Common.{◌≡◌, ℕ, zero, suc, ◌+◌, ◌≤◌, List, [], ◌∷◌, true, false, refl, arith, length}
use Rattle.std.specs.Prelude.{if◌then◌else◌, map, filter}
use Rattle.std.specs.List.{flat_map, range_with_len}
use Rattle.cta_site.specs.declared.site.Site.{Site}
use Rattle.cta_model.specs.declared.entries.Entry.{Entry}
use Rattle.cta_model.specs.declared.asks.Job.{Job}
use Rattle.cta_model.specs.History.{History, entry_numbers}
use Rattle.cta_model.specs.Files.{copy_numbers, copies_of_file}
use Rattle.cta_model.specs.Jobs.{jobs_born, jobs_for, newly_born, may_bear, is_live_job}
use Rattle.cta_model.specs.Mounts.{job_of}
use Rattle.cta_laws.proofs.Claims.{AllOf, all_append, all_filter, all_mono, all_pass}
use Rattle.part_model.specs.Order.{InOrder, goes_before}
use Rattle.part_laws.proofs.Orders.{between, comes_all, order_append, order_filter}

-- of this birth and file, and of this copy or a later one
abbrev pub FromCopy : ℕ → ℕ → ℕ → Job → Type 0
FromCopy b f c j = (j.birth ≡ b) × (j.file ≡ f) × (c ≤ j.copy)

-- of this birth, and of this file or a later one
abbrev FromFile : ℕ → ℕ → Job → Type 0
FromFile b f j = (j.birth ≡ b) × (f ≤ j.file)

copy_before : (b f c : ℕ) (y : Job) → FromCopy b f (suc c) y → goes_before (job_of b f c) y ≡ true
copy_before b f c y q = (let q0 : y.birth ≡ b = q.0 in let q1 : y.file ≡ f = q.1 in let q2 : suc c ≤ y.copy = q.2 in grind arith)

file_before : (x y : Job) (b f : ℕ) → (x.birth ≡ b) × (x.file ≡ f) → FromFile b (suc f) y → goes_before x y ≡ true
file_before x y b f p q = (let p0 : x.birth ≡ b = p.0 in let p1 : x.file ≡ f = p.1 in let q0 : y.birth ≡ b = q.0 in let q1 : suc f ≤ y.file = q.1 in grind arith)

birth_before : (x y : Job) (n : ℕ) → x.birth ≤ n → y.birth ≡ n + 1 → goes_before x y ≡ true
birth_before x y n p q = grind arith

pub copies_all : (b f a n : ℕ) → AllOf (FromCopy b f a) (map (job_of b f) (range_with_len a n))
copies_all b f a zero = tt
copies_all b f a (suc n) =
    ((refl, refl, omega arith), all_mono (FromCopy b f (a + 1)) (FromCopy b f a) (map (job_of b f) (range_with_len (a + 1) n)) (λ j p. (p.0, p.1, (let low : a + 1 ≤ j.copy = p.2 in omega arith))) (copies_all b f (a + 1) n))

pub copies_order : (b f a n : ℕ) → InOrder (map (job_of b f) (range_with_len a n))
copies_order b f a zero = tt
copies_order b f a (suc n) = (
  comes_all (FromCopy b f (a + 1)) (job_of b f a) (map (job_of b f) (range_with_len (a + 1) n)) (copies_all b f (a + 1) n)
      (λ y q. copy_before b f a y (q.0, q.1, (let low : a + 1 ≤ y.copy = q.2 in omega arith))),
  copies_order b f (a + 1) n,
)

for_all : (site : Site) (h : History) (b f : ℕ) → AllOf (λ (j : Job). (j.birth ≡ b) × (j.file ≡ f)) (jobs_for site h b f)
for_all site h b f =
    ((refl, refl), all_mono (FromCopy b f 1) (λ (j : Job). (j.birth ≡ b) × (j.file ≡ f)) (map (job_of b f) (copy_numbers site h f)) (λ j p. (p.0, p.1)) (copies_all b f 1 (copies_of_file site h f)))

for_order : (site : Site) (h : History) (b f : ℕ) → InOrder (jobs_for site h b f)
for_order site h b f = (
  comes_all (FromCopy b f 1) (job_of b f 0) (map (job_of b f) (copy_numbers site h f)) (copies_all b f 1 (copies_of_file site h f)) (λ y q. copy_before b f 0 y q),
  copies_order b f 1 (copies_of_file site h f),
)

files_all : (site : Site) (h : History) (b a n : ℕ) → AllOf (FromFile b a) (flat_map (jobs_for site h b) (range_with_len a n))
files_all site h b a zero = tt
files_all site h b a (suc n) =
    all_append (FromFile b a) (jobs_for site h b a) _
    (all_mono (λ (j : Job). (j.birth ≡ b) × (j.file ≡ a)) (FromFile b a) (jobs_for site h b a) (λ j p. (p.0, (let is : j.file ≡ a = p.1 in omega arith))) (for_all site h b a))
    (all_mono (FromFile b (a + 1)) (FromFile b a) (flat_map (jobs_for site h b) (range_with_len (a + 1) n)) (λ j p. (p.0, (let low : a + 1 ≤ j.file = p.1 in omega arith))) (files_all site h b (a + 1) n))

files_order : (site : Site) (h : History) (b a n : ℕ) → InOrder (flat_map (jobs_for site h b) (range_with_len a n))
files_order site h b a zero = tt
files_order site h b a (suc n) =
    order_append (jobs_for site h b a) (flat_map (jobs_for site h b) (range_with_len (a + 1) n)) (for_order site h b a) (files_order site h b (a + 1) n)
    (between (λ (j : Job). (j.birth ≡ b) × (j.file ≡ a)) (FromFile b (a + 1)) (jobs_for site h b a) (flat_map (jobs_for site h b) (range_with_len (a + 1) n)) (for_all site h b a) (files_all site h b (a + 1) n)
    (λ x y p q. file_before x y b a p (q.0, (let low : a + 1 ≤ y.file = q.1 in omega arith))))

-- the jobs that the newest entry may bear
abbrev may_be_born : Site → History → Entry → List Job
may_be_born site h e = flat_map (jobs_for site (e ∷ h) (length h + 1)) (entry_numbers (e ∷ h))

-- those of the newest entry are of its number
pub new_all : (site : Site) (h : History) (e : Entry) → AllOf (λ (j : Job). j.birth ≡ length h + 1) (newly_born site h e)
new_all site h e = elim (may_bear e.ask) as (λ t. AllOf (λ (j : Job). j.birth ≡ length h + 1) (if t then filter (is_live_job site (e ∷ h)) (may_be_born site h e) else [])) [
  | true ↦ all_filter (λ (j : Job). j.birth ≡ length h + 1) (is_live_job site (e ∷ h)) (may_be_born site h e)
      (all_mono (FromFile (length h + 1) 1) (λ (j : Job). j.birth ≡ length h + 1) (may_be_born site h e) (λ j p. p.0) (files_all site (e ∷ h) (length h + 1) 1 (length (e ∷ h))))
  | false ↦ tt
]

-- and they are live
pub new_live : (site : Site) (h : History) (e : Entry) → AllOf (λ j. is_live_job site (e ∷ h) j ≡ true) (newly_born site h e)
new_live site h e =
    elim (may_bear e.ask) as (λ t. AllOf (λ j. is_live_job site (e ∷ h) j ≡ true) (if t then filter (is_live_job site (e ∷ h)) (may_be_born site h e) else []))
    [ true ↦ all_pass (is_live_job site (e ∷ h)) (may_be_born site h e) | false ↦ tt ]

pub new_order : (site : Site) (h : History) (e : Entry) → InOrder (newly_born site h e)
new_order site h e =
    elim (may_bear e.ask) as (λ t. InOrder (if t then filter (is_live_job site (e ∷ h)) (may_be_born site h e) else []))
    [ true ↦ order_filter (is_live_job site (e ∷ h)) (may_be_born site h e) (files_order site (e ∷ h) (length h + 1) 1 (length (e ∷ h))) | false ↦ tt ]

pub born_low : (site : Site) (h : History) → AllOf (λ (j : Job). j.birth ≤ length h) (jobs_born site h)
born_low site [] = tt
born_low site (e ∷ h) =
    all_append (λ (j : Job). j.birth ≤ length (e ∷ h)) (jobs_born site h) (newly_born site h e)
    (all_mono (λ (j : Job). j.birth ≤ length h) (λ (j : Job). j.birth ≤ length (e ∷ h)) (jobs_born site h) (λ j low. omega arith) (born_low site h))
    (all_mono (λ (j : Job). j.birth ≡ length h + 1) (λ (j : Job). j.birth ≤ length (e ∷ h)) (newly_born site h e) (λ j is. omega arith) (new_all site h e))

pub born_order : (site : Site) (h : History) → InOrder (jobs_born site h)
born_order site [] = tt
born_order site (e ∷ h) =
    order_append (jobs_born site h) (newly_born site h e) (born_order site h) (new_order site h e)
    (between (λ (j : Job). j.birth ≤ length h) (λ (j : Job). j.birth ≡ length h + 1) (jobs_born site h) (newly_born site h e) (born_low site h) (new_all site h e) (λ x y p q. birth_before x y (length h) p q))
