-- The list of failed copies is in order, and has each copy that has failed.
use Rattle.std.proofs.Common.{◌≡◌, ◌∙◌, ℕ, zero, suc, ◌+◌, ◌≤◌, List, [], ◌∷◌, ◌++◌, Bool, true, false, ◌&&◌, ◌||◌, refl, sym, ap, subst, arith, length}
use Rattle.std.specs.Prelude.{if◌then◌else◌, ◌==◌, map, filter, nat_le, nat_lt}
use Rattle.std.specs.List.{list_any, flat_map, range_with_len}
use Rattle.std.proofs.lemmas.Bool.{and_from, and_parts, eqb-true, eq-eqb}
use Rattle.std.proofs.lemmas.List.{map-append}
use Rattle.cta_site.specs.declared.site.Site.{Site}
use Rattle.cta_model.specs.declared.asks.Job.{Job}
use Rattle.cta_model.specs.declared.reports.FailedCopy.{FailedCopy}
use Rattle.cta_model.specs.History.{History, entry_numbers}
use Rattle.cta_model.specs.Files.{copies_of_file, is_live, live_files, path_of}
use Rattle.cta_model.specs.Mounts.{has_copy, has_job, job_of, same_job}
use Rattle.cta_model.specs.Answers.{failed_numbers, is_failed}
use Rattle.cta_model.specs.Reports.{failed_copy}
use Rattle.cta_laws.proofs.Bools.{same_bool}
use Rattle.cta_laws.proofs.Claims.{AllOf, all_append, all_mono}
use Rattle.cta_laws.proofs.PlaceLaw.{named_within}
use Rattle.cta_laws.proofs.Ranges.{any_filter, any_flat_map, any_in_range, any_same, some_in_range}
use Rattle.part_model.specs.Order.{InOrder, goes_before}
use Rattle.part_laws.proofs.CopyJobs.{IsSomeCopy, some_all, some_copies, some_has, some_order}
use Rattle.part_laws.proofs.Orders.{between, order_append}
use Rattle.part_laws.specs.Failed.{failed_jobs}
use Rattle.part_laws.specs.FailedLaws.{FailedTell}

-- ---- what is told

tell_file : (site : Site) (h : History) (f : ℕ) (cs : List ℕ) → map (failed_copy site h f) cs ≡ map (λ (j : Job). failed_copy site h j.file j.copy) (map (job_of 0 f) cs)
tell_file site h f [] = refl
tell_file site h f (c ∷ cs) = ap (λ (xs : List FailedCopy). failed_copy site h f c ∷ xs) (tell_file site h f cs)

tell_files : (site : Site) (h : History) (fs : List ℕ) → flat_map (λ f. map (failed_copy site h f) (failed_numbers site h f)) fs ≡ map (λ (j : Job). failed_copy site h j.file j.copy) (flat_map (λ f. map (job_of 0 f) (failed_numbers site h f)) fs)
tell_files site h [] = refl
tell_files site h (f ∷ fs) =
    ap (λ (xs : List FailedCopy). xs ++ flat_map (λ f. map (failed_copy site h f) (failed_numbers site h f)) fs) (tell_file site h f (failed_numbers site h f))
    ∙ ap (λ (xs : List FailedCopy). map (λ (j : Job). failed_copy site h j.file j.copy) (map (job_of 0 f) (failed_numbers site h f)) ++ xs) (tell_files site h fs)
    ∙ sym (map-append (λ (j : Job). failed_copy site h j.file j.copy) (map (job_of 0 f) (failed_numbers site h f)) (flat_map (λ f. map (job_of 0 f) (failed_numbers site h f)) fs))

pub failed_tell : FailedTell
failed_tell site h = tell_files site h (live_files h)

-- ---- the order

abbrev FromFile : ℕ → Job → Type 0
FromFile f j = (j.birth ≡ 0) × (f ≤ j.file)

abbrev OfFile : ℕ → Job → Type 0
OfFile f j = (j.birth ≡ 0) × (j.file ≡ f)

-- the failed copies of a file
abbrev failed_of : Site → History → ℕ → List Job
failed_of site h f = some_copies (is_failed site h f) 0 f 1 (copies_of_file site h f)

of_file : (site : Site) (h : History) (f : ℕ) → AllOf (OfFile f) (failed_of site h f)
of_file site h f = all_mono (IsSomeCopy (is_failed site h f) 0 f 1) (OfFile f) (failed_of site h f) (λ j p. (p.0, p.1)) (some_all (is_failed site h f) 0 f 1 (copies_of_file site h f))

weaker : (a : ℕ) (js : List Job) → AllOf (FromFile (a + 1)) js → AllOf (FromFile a) js
weaker a js all = all_mono (FromFile (a + 1)) (FromFile a) js (λ j p. (p.0, (let low : a + 1 ≤ j.file = p.1 in omega arith))) all

from_file : (site : Site) (h : History) (test : ℕ → Bool) (a n : ℕ) → AllOf (FromFile a) (flat_map (failed_of site h) (filter test (range_with_len a n)))
from_file site h test a zero = tt
from_file site h test a (suc n) =
    elim (test a) as (λ b. AllOf (FromFile a) (flat_map (failed_of site h) (if b then a ∷ filter test (range_with_len (a + 1) n) else filter test (range_with_len (a + 1) n)))) [
      | true ↦ all_append (FromFile a) (failed_of site h a) _ (all_mono (OfFile a) (FromFile a) (failed_of site h a) (λ j p. (p.0, (let is : j.file ≡ a = p.1 in omega arith))) (of_file site h a)) (weaker a _ (from_file site h test (a + 1) n))
      | false ↦ weaker a _ (from_file site h test (a + 1) n)
    ]

file_before : (a : ℕ) (x y : Job) → OfFile a x → FromFile (a + 1) y → goes_before x y ≡ true
file_before a x y p q = (let p0 : x.birth ≡ 0 = p.0 in let p1 : x.file ≡ a = p.1 in let q0 : y.birth ≡ 0 = q.0 in let q1 : a + 1 ≤ y.file = q.1 in grind arith)

files_order : (site : Site) (h : History) (test : ℕ → Bool) (a n : ℕ) → InOrder (flat_map (failed_of site h) (filter test (range_with_len a n)))
files_order site h test a zero = tt
files_order site h test a (suc n) =
    elim (test a) as (λ b. InOrder (flat_map (failed_of site h) (if b then a ∷ filter test (range_with_len (a + 1) n) else filter test (range_with_len (a + 1) n)))) [
      | true ↦ order_append (failed_of site h a) (flat_map (failed_of site h) (filter test (range_with_len (a + 1) n))) (some_order (is_failed site h a) 0 a 1 (copies_of_file site h a)) (files_order site h test (a + 1) n)
          (between (OfFile a) (FromFile (a + 1)) (failed_of site h a) (flat_map (failed_of site h) (filter test (range_with_len (a + 1) n))) (of_file site h a) (from_file site h test (a + 1) n) (λ x y p q. file_before a x y p q))
      | false ↦ files_order site h test (a + 1) n
    ]

pub failed_order : (site : Site) (h : History) → InOrder (failed_jobs site h)
failed_order site h = files_order site h (is_live h) 1 (length h)

-- each is told as a job with birth 0
pub failed_births : (site : Site) (h : History) → AllOf (λ (j : Job). j.birth ≡ 0) (failed_jobs site h)
failed_births site h = all_mono (FromFile 1) (λ (j : Job). j.birth ≡ 0) (failed_jobs site h) (λ j p. p.0) (from_file site h (is_live h) 1 (length h))

-- ---- the members

-- whether a copy has failed: its file is live, and it is one of the file's copies that have failed
abbrev pub has_failed : Site → History → ℕ → ℕ → Bool
has_failed site h f c = is_live h f && (is_failed site h f c && (nat_le 1 c && nat_lt c (1 + copies_of_file site h f)))

pub failed_has : (site : Site) (h : History) (f c : ℕ) → has_copy f c (failed_jobs site h) ≡ has_failed site h f c
failed_has site h f c =
    any_flat_map (λ (j : Job). j.file == f && j.copy == c) (failed_of site h) (live_files h)
    ∙ any_same (λ x. has_copy f c (failed_of site h x)) test (live_files h) (λ x. some_has (is_failed site h x) 0 x f c 1 (copies_of_file site h x))
    ∙ any_filter test (is_live h) (entry_numbers h)
    ∙ same_bool (list_any (λ x. is_live h x && test x) (entry_numbers h)) (has_failed site h f c) (λ e. found e) (λ e. there e)
  where
    test : ℕ → Bool
    test x = (x == f) && (is_failed site h x c && (nat_le 1 c && nat_lt c (1 + copies_of_file site h x)))

    found : list_any (λ x. is_live h x && test x) (entry_numbers h) ≡ true → has_failed site h f c ≡ true
    found e =
        (let x = some_in_range (λ x. is_live h x && test x) 1 (length h) e in
        let parts = and_parts (is_live h x.0) _ x.3 in
        let rest = and_parts (x.0 == f) _ parts.1 in
        subst (λ (n : ℕ). has_failed site h n c ≡ true) (eqb-true x.0 f rest.0) (and_from _ _ parts.0 rest.1))

    there : has_failed site h f c ≡ true → list_any (λ x. is_live h x && test x) (entry_numbers h) ≡ true
    there e =
        (let parts = and_parts (is_live h f) _ e in
        let within : (1 ≤ f) × (f ≤ length h) = named_within h f (path_of h f) parts.0 in
        any_in_range (λ x. is_live h x && test x) 1 (length h) f within.0 (omega (arith, within.1)) (and_from _ _ parts.0 (and_from _ _ (eq-eqb f f refl) parts.1)))

-- ---- jobs of one birth

and_or : (a b c : Bool) → ((a && b) || (a && c)) ≡ (a && (b || c))
and_or true b c = refl
and_or false b c = refl

pub born_has : (n : ℕ) (j : Job) (js : List Job) → AllOf (λ (k : Job). k.birth ≡ n) js → has_job j js ≡ ((j.birth == n) && has_copy j.file j.copy js)
born_has n j [] all = none (j.birth == n)
  where
    none : (a : Bool) → false ≡ (a && false)
    none true = refl
    none false = refl
born_has n j (k ∷ js) all = ap (λ (b : Bool). b || has_job j js) head ∙ ap (λ (b : Bool). ((j.birth == n) && (k.file == j.file && k.copy == j.copy)) || b) (born_has n j js all.1) ∙ and_or (j.birth == n) (k.file == j.file && k.copy == j.copy) (has_copy j.file j.copy js)
  where
    head : same_job j k ≡ ((j.birth == n) && (k.file == j.file && k.copy == j.copy))
    head = (let is : k.birth ≡ n = all.0 in same_bool (same_job j k) ((j.birth == n) && (k.file == j.file && k.copy == j.copy)) (λ e. grind arith) (λ e. grind arith))

-- a job is in the list where its birth is 0 and its copy has failed
pub failed_members : (site : Site) (h : History) (j : Job) → has_job j (failed_jobs site h) ≡ ((j.birth == 0) && has_failed site h j.file j.copy)
failed_members site h j = born_has 0 j (failed_jobs site h) (failed_births site h) ∙ ap (λ (b : Bool). (j.birth == 0) && b) (failed_has site h j.file j.copy)
