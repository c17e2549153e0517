-- Sums over lists, and over the open mounts.
use Rattle.std.proofs.Common.{◌≡◌, ℕ, ◌+◌, ◌-◌, ◌≤◌, ◌<◌, inl, inr, List, [], ◌∷◌, ◌++◌, Bool, true, false, ◌||◌, not, refl, sym, ◌∙◌, ap, subst, arith, length}
use Rattle.std.specs.Prelude.{Option, Some, None, if◌then◌else◌, ◌==◌, filter, sum_by}
use Rattle.std.proofs.lemmas.Bool.{and_parts, eqb-true}
use Rattle.std.proofs.lemmas.Bool.Decides.{eqb_tells}
use Rattle.std.proofs.lemmas.List.Sums.{sum_by-cons}
use Rattle.cta_site.specs.declared.site.Site.{Site}
use Rattle.cta_site.specs.Listed.{Listed}
use Rattle.cta_site.specs.Lookups.{capacity_of, pool_of_tape}
use Rattle.cta_model.specs.declared.entries.Entry.{Entry}
use Rattle.cta_model.specs.declared.asks.Ask.{Ask}
use Rattle.cta_model.specs.declared.asks.Ask.TheVariants as ask
use Rattle.cta_model.specs.declared.asks.Direction.{Direction}
use Rattle.cta_model.specs.declared.asks.Direction.TheVariants as direction
use Rattle.cta_model.specs.declared.answers.Answer.{Answer}
use Rattle.cta_model.specs.declared.answers.Answer.TheVariants as answer
use Rattle.cta_model.specs.declared.asks.Item.{Item}
use Rattle.cta_model.specs.declared.asks.Job.{Job}
use Rattle.cta_model.specs.History.{History, entry_of, moment_of, has_number}
use Rattle.cta_model.specs.Files.{entry_sum, sum_of, size_of}
use Rattle.cta_model.specs.Mounts.{mount_of, open_mounts, open_after, claimed_items, claimed_after, without_jobs, has_job, item_jobs, same_job, last_batch, batch_in, batch_or}
use Rattle.cta_model.specs.Tapes.{size_of_items, used_bytes, next_fseq}
use Rattle.cta_model.specs.Space.{free_space, evictable_size}
use Rattle.cta_model.specs.Queues.{queue_of}
use Rattle.cta_model.specs.Batches.{taken_of, written_items, read_items, fseq_on, batch_by}
use Rattle.cta_model.specs.Answers.{answer_of, is_last_batch, same_items, same_item, claims_all, names_twice}
use Rattle.cta_model.specs.Legal.{IsLegal}
use Rattle.cta_laws.proofs.Tests.{bool_cases, not_next, or_left, or_right}
use Rattle.cta_laws.proofs.OpenMounts.{AllUpTo, opens_up_to}
use Rattle.cta_laws.proofs.OnceLaw.{same_job_eq}
use Rattle.cta_laws.proofs.Claims.{AllOf, ItemBelow, Below, all_append, all_filter, all_mono, insert_all, IsBatch, claim_is_batch, claim_all, queue_below}
use Rattle.cta_laws.proofs.FseqLaw.{any_filter}
use Rattle.cta_laws.proofs.JobLists.{job_self, or_none, still_there, without_twice}

-- ---- sums over lists

unfoldable pub total : {A : Type 0} → (A → ℕ) → List A → ℕ
total g [] = 0
total g (x ∷ xs) = g x + total g xs

pub total_is : {A : Type 0} (g : A → ℕ) (xs : List A) → sum_by g xs ≡ total g xs
unfolding total
total_is g [] = refl
total_is g (x ∷ xs) = rw (sum_by-cons g x xs, total_is g xs) refl

pub total_append : {A : Type 0} (g : A → ℕ) (xs ys : List A) → total g (xs ++ ys) ≡ total g xs + total g ys
unfolding total
total_append g [] ys = omega arith
total_append g (x ∷ xs) ys = omega (arith, total_append g xs ys)

pub total_filter : {A : Type 0} (g : A → ℕ) (test : A → Bool) (xs : List A) → total g (filter test xs) ≡ total (λ x. if test x then g x else 0) xs
unfolding total
total_filter g test [] = refl
total_filter g test (x ∷ xs) = elim (bool_cases (test x)) [ inl hit ↦ rw hit (omega (arith, total_filter g test xs)) | inr miss ↦ rw miss (omega (arith, total_filter g test xs)) ]

pub total_less : {A : Type 0} (g : A → ℕ) (test : A → Bool) (xs : List A) → total g (filter test xs) ≤ total g xs
unfolding total
total_less g test [] = omega arith
total_less g test (x ∷ xs) = elim (bool_cases (test x)) [ inl hit ↦ rw hit (omega (arith, total_less g test xs)) | inr miss ↦ rw miss (omega (arith, total_less g test xs)) ]

-- numbers of a list, none twice
abbrev pub IsDistinct : List ℕ → Type 0
IsDistinct [] = Unit {0}
IsDistinct (m ∷ ms) = (has_number m ms ≡ false) × IsDistinct ms

pub total_le : (g k : ℕ → ℕ) (n : ℕ) (ms : List ℕ) → AllUpTo n ms → ((m : ℕ) → m ≤ n → g m ≤ k m) → total g ms ≤ total k ms
unfolding total
total_le g k n [] all h = omega arith
total_le g k n (m ∷ ms) all h = omega (arith, h m all.0, total_le g k n ms all.1 h)

pub total_other : (g k : ℕ → ℕ) (n i : ℕ) (ms : List ℕ) → AllUpTo n ms → has_number i ms ≡ false → ((m : ℕ) → m ≤ n → (i == m) ≡ false → g m ≤ k m) → total g ms ≤ total k ms
unfolding total
total_other g k n i [] all none h = omega arith
total_other g k n i (m ∷ ms) all none h =
    elim (bool_cases (i == m)) [
      | inl hit ↦ (let bad : true ≡ false = rw hit at none in absurd (cc))
      | inr miss ↦ omega (arith, h m all.0 miss, total_other g k n i ms all.1 (rw miss at none) h)
    ]

-- where one number of the list differs
pub total_one : (g k : ℕ → ℕ) (n i c d : ℕ) (ms : List ℕ) → AllUpTo n ms → IsDistinct ms → has_number i ms ≡ true → ((m : ℕ) → m ≤ n → (i == m) ≡ false → g m ≤ k m) → g i + d ≤ k i + c → total g ms + d ≤ total k ms + c
unfolding total
total_one g k n i c d [] all dis there h at = absurd (cc)
total_one g k n i c d (m ∷ ms) all dis there h at =
    elim (bool_cases (i == m)) [
      | inl hit ↦
          (let same : i ≡ m = eqb-true i m hit in
          let none : has_number i ms ≡ false = subst (λ (x : ℕ). has_number x ms ≡ false) (sym same) dis.0 in
          let here : g m + d ≤ k m + c = subst (λ (x : ℕ). g x + d ≤ k x + c) same at in
          omega (arith, total_other g k n i ms all.1 none h))
      | inr miss ↦ omega (arith, h m all.0 miss, total_one g k n i c d ms all.1 dis.1 (rw miss at there) h at)
    ]

pub number_low : (n m : ℕ) (ms : List ℕ) → AllUpTo n ms → n < m → has_number m ms ≡ false
number_low n m [] all high = refl
number_low n m (k ∷ ms) all high =
    elim (eqb_tells m k) [ inl x ↦ (let bad : m ≡ k = x.1 in let low : k ≤ n = all.0 in absurd (omega arith)) | inr x ↦ rw x.0 (number_low n m ms all.1 high) ]

pub distinct_filter : (test : ℕ → Bool) (ms : List ℕ) → IsDistinct ms → IsDistinct (filter test ms)
distinct_filter test [] dis = tt
distinct_filter test (m ∷ ms) dis =
    elim (bool_cases (test m))
    [ inl hit ↦ rw hit (not_in, distinct_filter test ms dis.1) | inr miss ↦ rw miss (distinct_filter test ms dis.1) ]
  where
    not_in : has_number m (filter test ms) ≡ false
    not_in = elim (bool_cases (has_number m (filter test ms))) [ inl hit ↦ (let bad : has_number m ms ≡ true = any_filter test m ms hit in let good : has_number m ms ≡ false = dis.0 in absurd (cc)) | inr miss ↦ miss ]

pub after_distinct : (k : Ask) (a : Answer) (n : ℕ) (ms : List ℕ) → has_number n ms ≡ false → IsDistinct ms → IsDistinct (open_after k a n ms)
after_distinct (ask.Next d) (answer.Mounted m way v) n ms new dis = (new, dis)
after_distinct (ask.End m f) a n ms new dis = distinct_filter (λ k. not (k == m)) ms dis
after_distinct _ a n ms new dis = dis

pub open_distinct : (h : History) → IsDistinct (open_mounts h)
open_distinct [] = tt
open_distinct (e ∷ h) = after_distinct e.ask e.answer (length h + 1) (open_mounts h) (number_low (length h) (length h + 1) (open_mounts h) (opens_up_to h) (omega arith)) (open_distinct h)

-- ---- sizes of claimed items

abbrev pub size_in : Item → ℕ
size_in i = i.sum.len

pub size_is : (items : List Item) → size_of_items items ≡ total size_in items
size_is items = total_is (λ (i : Item). i.sum.len) items

-- the item has the sum of its file, which is one of the history
abbrev pub IsOfFile : History → Item → Type 0
IsOfFile h i = (i.sum.len ≡ size_of h i.job.file) × (i.job.file ≤ length h)

pub entry_older : (e : Entry) (h : History) (f : ℕ) → f ≤ length h → entry_of (e ∷ h) f ≡ entry_of h f
entry_older e h f low = rw (not_next f (length h) low) refl

pub size_older : (e : Entry) (h : History) (f : ℕ) → f ≤ length h → size_of (e ∷ h) f ≡ size_of h f
size_older e h f low = ap (λ (o : Option Entry). (entry_sum o).len) (entry_older e h f low)

pub of_older : (e : Entry) (h : History) (items : List Item) → AllOf (IsOfFile h) items → AllOf (IsOfFile (e ∷ h)) items
of_older e h items all = all_mono (IsOfFile h) (IsOfFile (e ∷ h)) items (λ i p. step i p) all
  where
    step : (i : Item) → IsOfFile h i → IsOfFile (e ∷ h) i
    step i p = (let low : i.job.file ≤ length h = p.1 in (p.0 ∙ sym (size_older e h i.job.file low), omega arith))

pub both : {A : Type 0} (P Q : A → Type 0) (xs : List A) → AllOf P xs → AllOf Q xs → AllOf (λ x. P x × Q x) xs
both P Q [] a b = tt
both P Q (x ∷ xs) a b = ((a.0, b.0), both P Q xs a.1 b.1)

abbrev pub HasLength : History → Item → Type 0
HasLength h i = i.sum.len ≡ size_of h i.job.file

pub written_lengths : (h : History) (s : ℕ) (js : List Job) → AllOf (HasLength h) (written_items h s js)
written_lengths h s [] = tt
written_lengths h s (j ∷ js) = (refl, written_lengths h (s + 1) js)

pub read_lengths : (site : Site) (h : History) (v : ℕ) (js : List Job) → AllOf (HasLength h) (read_items site h v js)
read_lengths site h v [] = tt
read_lengths site h v (j ∷ js) = insert_all (HasLength h) (record { job = j; fseq = fseq_on site h v j.file; sum = sum_of h j.file }) (read_items site h v js) refl (read_lengths site h v js)

pub batch_lengths : (site : Site) (h : History) (t : ℕ) (way : Direction) (v : ℕ) → AllOf (HasLength h) (batch_by site h t way v)
batch_lengths site h t direction.Archive v = written_lengths h (next_fseq h v) (taken_of h site.limits.batch_files (capacity_of site v - used_bytes h v) (queue_of site h direction.Archive (pool_of_tape site v)))
batch_lengths site h t direction.Retrieve v = read_lengths site h v (taken_of h site.limits.batch_files (free_space site h + evictable_size site h t) (queue_of site h direction.Retrieve v))

pub claim_of_file : (site : Site) (h : History) (t m : ℕ) (items : Listed Item) (evicted : Listed ℕ) → answer.Batch items evicted ≡ answer_of site h t (ask.Claim m) → AllOf (IsOfFile h) items.items
claim_of_file site h t m items evicted e =
    let is : IsBatch site h (moment_of h t) (mount_of h m) items.items = claim_is_batch site h t m items evicted e in
    both (HasLength h) (ItemBelow (length h)) items.items
    (subst (λ (xs : List Item). AllOf (HasLength h) xs) (sym is.2) (batch_lengths site h (moment_of h t) is.0.direction is.0.tape))
    (claim_all (Below (length h)) site h t m items evicted e (queue_below site h))

pub if_of : (h : History) (b : Bool) (js : List Job) (xs : List Item) → AllOf (IsOfFile h) xs → AllOf (IsOfFile h) (if b then without_jobs js xs else xs)
if_of h true js xs all = all_filter (IsOfFile h) (λ (i : Item). not (has_job i.job js)) xs all
if_of h false js xs all = all

pub claimed_step : (site : Site) (h : History) (t : ℕ) (k : Ask) (a : Answer) (m : ℕ) (before : List Item) → a ≡ answer_of site h t k → AllOf (IsOfFile h) before → AllOf (IsOfFile h) (claimed_after k a m before)
claimed_step site h t (ask.Claim k) (answer.Batch items evicted) m before is all =
    elim (bool_cases (k == m))
    [ inl hit ↦ rw hit (all_append (IsOfFile h) before items.items all (claim_of_file site h t k items evicted is)) | inr miss ↦ rw miss all ]
claimed_step site h t (ask.Flushed k items) a m before is all = if_of h (k == m) (item_jobs items.items) before all
claimed_step site h t (ask.Recalled k job) a m before is all = if_of h (k == m) (job ∷ []) before all
claimed_step site h t (ask.Failed k f charged returned) a m before is all = if_of h (k == m) (charged.items ++ returned.items) before all
claimed_step site h t _ a m before is all = all

pub claimed_of_file : (site : Site) (h : History) → IsLegal site h → (m : ℕ) → AllOf (IsOfFile h) (claimed_items h m)
claimed_of_file site [] legal m = tt
claimed_of_file site (e ∷ h) legal m = of_older e h (claimed_items (e ∷ h) m) (claimed_step site h e.at e.ask e.answer m (claimed_items h m) legal.1.answered (claimed_of_file site h legal.0 m))

pub last_step : (site : Site) (h : History) (t m : ℕ) (k : Ask) (a : Answer) (o : Option (List Item)) (items : List Item) → a ≡ answer_of site h t k → ((xs : List Item) → o ≡ Some xs → AllOf (IsOfFile h) xs) → batch_or (batch_in k a m) o ≡ Some items → AllOf (IsOfFile h) items
last_step site h t m (ask.Claim k) (answer.Batch xs evicted) o items is older =
    elim (k == m) as (λ b. batch_or (if b then Some xs.items else None) o ≡ Some items → AllOf (IsOfFile h) items)
    [ true ↦ λ e. (let same : xs.items ≡ items = cc in subst (λ (ys : List Item). AllOf (IsOfFile h) ys) same (claim_of_file site h t k xs evicted is)) | false ↦ λ e. older items e ]
last_step site h t m _ a o items is older = λ e. older items e

pub last_of_file : (site : Site) (h : History) → IsLegal site h → (m : ℕ) (items : List Item) → last_batch h m ≡ Some items → AllOf (IsOfFile h) items
last_of_file site [] legal m items e = absurd (cc)
last_of_file site (e ∷ h) legal m items is = of_older e h items (last_step site h e.at m e.ask e.answer (last_batch h m) items legal.1.answered (λ xs q. last_of_file site h legal.0 m xs q) is)

pub same_of : (h : History) (xs ys : List Item) → same_items xs ys ≡ true → AllOf (IsOfFile h) ys → AllOf (IsOfFile h) xs
same_of h [] [] e a = tt
same_of h [] (y ∷ ys) e a = absurd (cc)
same_of h (x ∷ xs) [] e a = absurd (cc)
same_of h (x ∷ xs) (y ∷ ys) e a =
    let parts : (same_item x y ≡ true) × (same_items xs ys ≡ true) = and_parts _ _ e in
    let p : (same_job x.job y.job ≡ true) × (_ ≡ true) = and_parts _ _ parts.0 in
    let file : x.job.file ≡ y.job.file = ap (λ (j : Job). j.file) (same_job_eq x.job y.job p.0) in
    let len : x.sum.len ≡ y.sum.len = eqb-true _ _ (and_parts _ _ (and_parts (x.fseq == y.fseq) _ p.1).1).0 in
    ((len ∙ a.0.0 ∙ sym (ap (size_of h) file), subst (λ (n : ℕ). n ≤ length h) (sym file) a.0.1), same_of h xs ys parts.1 a.1)

pub batch_of_file : (h : History) (items : List Item) (o : Option (List Item)) → is_last_batch o items ≡ true → ((xs : List Item) → o ≡ Some xs → AllOf (IsOfFile h) xs) → AllOf (IsOfFile h) items
batch_of_file h items None e all = absurd (cc)
batch_of_file h items (Some xs) e all = same_of h items xs e (all xs refl)

-- ---- what is taken out

abbrev pub file_size : History → Job → ℕ
file_size h j = size_of h j.file

pub without_one : (h : History) (j : Job) (items : List Item) → AllOf (IsOfFile h) items → has_job j (item_jobs items) ≡ true → total size_in (without_jobs (j ∷ []) items) + file_size h j ≤ total size_in items
unfolding total
without_one h j [] all there = absurd (cc)
without_one h j (i ∷ items) all there =
    elim (bool_cases (same_job j i.job)) [
      | inl hit ↦
          (let same : j ≡ i.job = same_job_eq j i.job hit in
          let out : has_job i.job (j ∷ []) ≡ true = subst (λ (x : Job). has_job i.job (x ∷ []) ≡ true) (sym same) (or_left (same_job i.job i.job) false (job_self i.job)) in
          let len : i.sum.len ≡ size_of h j.file = all.0.0 ∙ ap (λ (x : Job). size_of h x.file) (sym same) in
          rw out (omega (arith, total_less size_in (λ (x : Item). not (has_job x.job (j ∷ []))) items)))
      | inr miss ↦
          (let rest : total size_in (without_jobs (j ∷ []) items) + size_of h j.file ≤ total size_in items = without_one h j items all.1 (rw miss at there) in
          elim (bool_cases (has_job i.job (j ∷ []))) [ inl out ↦ rw out (omega arith) | inr stays ↦ rw stays (omega arith) ])
    ]

-- jobs that a mount claims, none twice, take their sizes out
pub without_all : (h : History) (m : ℕ) (js : List Job) → AllOf (IsOfFile h) (claimed_items h m) → claims_all h m js ≡ true → names_twice js ≡ false → total size_in (without_jobs js (claimed_items h m)) + total (file_size h) js ≤ total size_in (claimed_items h m)
unfolding total
without_all h m [] all there once = omega (arith, total_less size_in (λ (i : Item). not (has_job i.job [])) (claimed_items h m))
without_all h m (j ∷ js) all there once =
    let parts : (has_job j (item_jobs (claimed_items h m)) ≡ true) × (claims_all h m js ≡ true) = and_parts _ _ there in
    let dis : (has_job j js ≡ false) × (names_twice js ≡ false) = or_none _ _ once in
    let rest : total size_in (without_jobs js (claimed_items h m)) + total (file_size h) js ≤ total size_in (claimed_items h m) = without_all h m js all parts.1 dis.1 in
    let one : total size_in (without_jobs (j ∷ []) (without_jobs js (claimed_items h m))) + file_size h j ≤ total size_in (without_jobs js (claimed_items h m)) =
    without_one h j (without_jobs js (claimed_items h m)) (all_filter (IsOfFile h) (λ (i : Item). not (has_job i.job js)) (claimed_items h m) all) (still_there j js (claimed_items h m) dis.0 parts.0) in
    rw (without_twice j js (claimed_items h m)) (omega arith)

pub items_total : (h : History) (items : List Item) → AllOf (IsOfFile h) items → total (file_size h) (item_jobs items) ≡ total size_in items
unfolding total
items_total h [] all = refl
items_total h (i ∷ items) all = (let len : i.sum.len ≡ size_of h i.job.file = all.0.0 in omega (arith, items_total h items all.1))
