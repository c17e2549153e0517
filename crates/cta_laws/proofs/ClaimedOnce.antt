-- A mount claims each job at most once; and what ends claims takes out exactly their sizes.
use Rattle.std.proofs.Common.{◌≡◌, ℕ, zero, suc, ◌+◌, ◌-◌, ◌≤◌, inl, inr, List, [], ◌∷◌, ◌++◌, Bool, true, false, ◌||◌, not, refl, sym, ◌∙◌, ap, subst, arith, ◌&&◌}
use Rattle.std.specs.Prelude.{if◌then◌else◌, ◌==◌, nat_lt, nat_le}
use Rattle.std.specs.List.{list_all}
use Rattle.std.proofs.lemmas.Bool.{and_parts, eqb-true, eq-eqb}
use Rattle.cta_site.specs.declared.site.Site.{Site}
use Rattle.cta_site.specs.Listed.{Listed}
use Rattle.cta_site.specs.Lookups.{capacity_of, pool_of_tape}
use Rattle.cta_model.specs.declared.asks.Ask.{Ask}
use Rattle.cta_model.specs.declared.asks.Direction.{Direction}
use Rattle.cta_model.specs.declared.answers.Answer.{Answer}
use Rattle.cta_model.specs.declared.asks.Item.{Item}
use Rattle.cta_model.specs.declared.asks.Job.{Job}
use Rattle.cta_model.specs.History.{History, moment_of, has_number}
use Rattle.cta_model.specs.Files.{size_of, sum_of}
use Rattle.cta_model.specs.Mounts.{mount_of, is_open, claimed_items, claimed_after, without_jobs, item_jobs, has_job, same_job, claims}
use Rattle.cta_model.specs.Tapes.{used_bytes, next_fseq}
use Rattle.cta_model.specs.Space.{free_space, evictable_size}
use Rattle.cta_model.specs.Jobs.{is_live_job, jobs_born}
use Rattle.cta_model.specs.Queues.{queue_of, is_queued}
use Rattle.cta_model.specs.Batches.{taken_of, written_items, read_items, insert_by_fseq, fseq_on, batch_by}
use Rattle.cta_model.specs.Answers.{answer_of, names_twice}
use Rattle.cta_model.specs.Legal.{IsLegal}
use Rattle.cta_laws.specs.Jobs.{count_job}
use Rattle.cta_laws.proofs.Tests.{bool_cases, or_left}
use Rattle.cta_laws.proofs.Claims.{AllOf, all_filter, IsBatch, claim_is_batch}
use Rattle.cta_laws.proofs.OnceLaw.{same_job_eq}
use Rattle.cta_laws.proofs.JobLists.{job_self, without_twice, still_there, or_none}
use Rattle.cta_laws.proofs.StandLaw.{count_filter, stands_once}
use Rattle.cta_laws.proofs.ClaimLaw.{names_unclaimed, unclaimed_by}
use Rattle.cta_laws.proofs.Sums.{total, size_in, IsOfFile, IsDistinct, file_size}
use Rattle.cta_model.specs.declared.asks.Ask.TheVariants as ask
use Rattle.cta_model.specs.declared.asks.Direction.TheVariants as direction
use Rattle.cta_model.specs.declared.answers.Answer.TheVariants as answer
use Rattle.cta_laws.proofs.JobLaw.{not_true}

-- ---- how often a job is in a batch

pub queue_once : (site : Site) (h : History) → IsLegal site h → (way : Direction) (key : ℕ) (j : Job) → count_job j (queue_of site h way key) ≤ 1
queue_once site h legal way key j =
    elim (bool_cases (is_live_job site h j)) [
      | inl live ↦ at_most (is_queued site h way key j) (count_job j (queue_of site h way key)) (stands_once site h legal j live way key)
      | inr dead ↦
          (let zero_or : count_job j (queue_of site h way key) ≡ 0 = count_filter j (is_queued site h way key) (jobs_born site h) ∙ ended (is_live_job site h j) _ (count_job j (jobs_born site h)) dead in
          omega arith)
    ]
  where
    at_most : (b : Bool) (n : ℕ) → n ≡ (if b then 1 else 0) → n ≤ 1
    at_most true n e = omega arith
    at_most false n e = omega arith

    ended : (live rest : Bool) (n : ℕ) → live ≡ false → (if live && rest then n else 0) ≡ 0
    ended true rest n e = absurd (cc)
    ended false rest n e = refl

pub taken_count : (h : History) (n room : ℕ) (q : List Job) (j : Job) → count_job j (taken_of h n room q) ≤ count_job j q
taken_count h n room [] j = omega arith
taken_count h zero room (k ∷ q) j = omega arith
taken_count h (suc n) room (k ∷ q) j =
    elim (nat_le (size_of h k.file) room) as (λ b. count_job j (if b then k ∷ taken_of h n (room - size_of h k.file) q else taken_of h (suc n) room q) ≤ count_job j (k ∷ q)) [
      | true ↦ omega (arith, taken_count h n (room - size_of h k.file) q j)
      | false ↦ omega (arith, taken_count h (suc n) room q j)
    ]

pub written_jobs : (h : History) (s : ℕ) (js : List Job) → item_jobs (written_items h s js) ≡ js
written_jobs h s [] = refl
written_jobs h s (j ∷ js) = ap (λ (xs : List Job). j ∷ xs) (written_jobs h (s + 1) js)

pub insert_count : (i : Item) (ks : List Item) (j : Job) → count_job j (item_jobs (insert_by_fseq i ks)) ≡ count_job j (item_jobs (i ∷ ks))
insert_count i [] j = refl
insert_count i (k ∷ ks) j =
    elim (nat_lt i.fseq k.fseq) as (λ b. count_job j (item_jobs (if b then i ∷ k ∷ ks else k ∷ insert_by_fseq i ks)) ≡ count_job j (item_jobs (i ∷ k ∷ ks)))
    [ true ↦ refl | false ↦ omega (arith, insert_count i ks j) ]

pub read_count : (site : Site) (h : History) (v : ℕ) (js : List Job) (j : Job) → count_job j (item_jobs (read_items site h v js)) ≡ count_job j js
read_count site h v [] j = refl
read_count site h v (k ∷ js) j =
    insert_count (record { job = k; fseq = fseq_on site h v k.file; sum = sum_of h k.file }) (read_items site h v js) j ∙ ap (λ (n : ℕ). (if same_job j k then 1 else 0) + n) (read_count site h v js j)

pub batch_count : (site : Site) (h : History) → IsLegal site h → (t : ℕ) (way : Direction) (v : ℕ) (j : Job) → count_job j (item_jobs (batch_by site h t way v)) ≤ 1
batch_count site h legal t direction.Archive v j =
    let q : List Job = queue_of site h direction.Archive (pool_of_tape site v) in
    let w : item_jobs (batch_by site h t direction.Archive v) ≡ taken_of h site.limits.batch_files (capacity_of site v - used_bytes h v) (queue_of site h direction.Archive (pool_of_tape site v)) = written_jobs h (next_fseq h v) (taken_of h site.limits.batch_files (capacity_of site v - used_bytes h v) (queue_of site h direction.Archive (pool_of_tape site v))) in
    omega (arith, ap (count_job j) w, taken_count h site.limits.batch_files (capacity_of site v - used_bytes h v) (queue_of site h direction.Archive (pool_of_tape site v)) j, queue_once site h legal direction.Archive (pool_of_tape site v) j)
batch_count site h legal t direction.Retrieve v j =
    omega (arith, read_count site h v (taken_of h site.limits.batch_files (free_space site h + evictable_size site h t) (queue_of site h direction.Retrieve v)) j, taken_count h site.limits.batch_files (free_space site h + evictable_size site h t) (queue_of site h direction.Retrieve v) j, queue_once site h legal direction.Retrieve v j)

pub claim_count : (site : Site) (h : History) → IsLegal site h → (t m : ℕ) (items : Listed Item) (evicted : Listed ℕ) → answer.Batch items evicted ≡ answer_of site h t (ask.Claim m) → (j : Job) → count_job j (item_jobs items.items) ≤ 1
claim_count site h legal t m items evicted e j =
    let is : IsBatch site h (moment_of h t) (mount_of h m) items.items = claim_is_batch site h t m items evicted e in
    subst (λ (xs : List Item). count_job j (item_jobs xs) ≤ 1) (sym is.2) (batch_count site h legal (moment_of h t) is.0.direction is.0.tape j)

-- ---- how often a mount claims a job

pub count_items : (j : Job) (xs ys : List Item) → count_job j (item_jobs (xs ++ ys)) ≡ count_job j (item_jobs xs) + count_job j (item_jobs ys)
count_items j [] ys = omega arith
count_items j (x ∷ xs) ys = omega (arith, count_items j xs ys)

pub count_none : (j : Job) (js : List Job) → has_job j js ≡ false → count_job j js ≡ 0
count_none j [] e = refl
count_none j (k ∷ js) e = (let p : (same_job j k ≡ false) × (has_job j js ≡ false) = or_none _ _ e in rw (p.0) (omega (arith, count_none j js p.1)))

pub without_count : (j : Job) (js : List Job) (xs : List Item) → count_job j (item_jobs (without_jobs js xs)) ≤ count_job j (item_jobs xs)
without_count j js [] = omega arith
without_count j js (x ∷ xs) =
    elim (not (has_job x.job js)) as (λ b. count_job j (item_jobs (if b then x ∷ without_jobs js xs else without_jobs js xs)) ≤ count_job j (item_jobs (x ∷ xs)))
    [ true ↦ omega (arith, without_count j js xs) | false ↦ omega (arith, without_count j js xs) ]

abbrev pub AtMostOnce : List Item → Type 0
AtMostOnce items = (j : Job) → count_job j (item_jobs items) ≤ 1

pub if_once : (b : Bool) (js : List Job) (xs : List Item) → AtMostOnce xs → AtMostOnce (if b then without_jobs js xs else xs)
if_once true js xs all j = omega (arith, without_count j js xs, all j)
if_once false js xs all j = all j

pub once_step : (site : Site) (h : History) → IsLegal site h → (t : ℕ) (k : Ask) (a : Answer) (m : ℕ) → a ≡ answer_of site h t k → AtMostOnce (claimed_items h m) → AtMostOnce (claimed_after k a m (claimed_items h m))
once_step site h legal t (ask.Claim k) (answer.Batch items evicted) m is all =
    elim (bool_cases (k == m)) [
      | inl hit ↦ rw hit (λ j. elim (bool_cases (has_job j (item_jobs items.items))) [
        | inl new ↦
            (let un = names_unclaimed site h t (ask.Claim k) (answer.Batch items evicted) j is new in
            let op : is_open h m ≡ true = subst (λ (n : ℕ). is_open h n ≡ true) (eqb-true k m hit) un.1 in
            let none : claims h m j ≡ false = not_true (claims h m j) (λ c. unclaimed_by h j m un.0 op c) in
            omega (arith, count_items j (claimed_items h m) items.items, count_none j (item_jobs (claimed_items h m)) none, claim_count site h legal t k items evicted is j))
        | inr old ↦ omega (arith, count_items j (claimed_items h m) items.items, count_none j (item_jobs items.items) old, all j)
      ])
      | inr miss ↦ rw miss all
    ]
once_step site h legal t (ask.Flushed k items) a m is all = if_once (k == m) (item_jobs items.items) (claimed_items h m) all
once_step site h legal t (ask.Recalled k job) a m is all = if_once (k == m) (job ∷ []) (claimed_items h m) all
once_step site h legal t (ask.Failed k f charged returned) a m is all = if_once (k == m) (charged.items ++ returned.items) (claimed_items h m) all
once_step site h legal t _ a m is all = all

-- a mount claims each job at most once
pub claims_once : (site : Site) (h : History) → IsLegal site h → (m : ℕ) → AtMostOnce (claimed_items h m)
claims_once site [] legal m j = omega arith
claims_once site (e ∷ h) legal m j = once_step site h legal.0 e.at e.ask e.answer m legal.1.answered (λ k. claims_once site h legal.0 m k) j

-- ---- what is taken out, exactly

pub turned_job : (j k : Job) → same_job j k ≡ false → same_job k j ≡ false
turned_job j k d = elim (bool_cases (same_job k j)) [ inl hit ↦ (let bad : same_job j j ≡ false = subst (λ (x : Job). same_job j x ≡ false) (same_job_eq k j hit) d in absurd (cc (bad, job_self j))) | inr miss ↦ miss ]

pub none_out : (j : Job) (items : List Item) → count_job j (item_jobs items) ≡ 0 → without_jobs (j ∷ []) items ≡ items
none_out j [] e = refl
none_out j (i ∷ items) e =
    elim (bool_cases (same_job j i.job)) [
      | inl hit ↦ (let bad : 1 + count_job j (item_jobs items) ≡ 0 = rw hit at e in absurd (omega arith))
      | inr miss ↦
          (let rest : count_job j (item_jobs items) ≡ 0 = (let x : 0 + count_job j (item_jobs items) ≡ 0 = rw miss at e in omega arith) in
          rw (turned_job j i.job miss) (ap (λ (xs : List Item). i ∷ xs) (none_out j items rest)))
    ]

pub one_exact : (h : History) (j : Job) (items : List Item) → AllOf (IsOfFile h) items → has_job j (item_jobs items) ≡ true → count_job j (item_jobs items) ≤ 1 → total size_in (without_jobs (j ∷ []) items) + file_size h j ≡ total size_in items
unfolding total
one_exact h j [] all there once = absurd (cc)
one_exact h j (i ∷ items) all there once =
    elim (bool_cases (same_job j i.job)) [
      | inl hit ↦
          (let same : j ≡ i.job = same_job_eq j i.job hit in
          let out : same_job i.job j ≡ true = subst (λ (x : Job). same_job i.job x ≡ true) (sym same) (job_self i.job) in
          let len : i.sum.len ≡ size_of h j.file = all.0.0 ∙ ap (λ (x : Job). size_of h x.file) (sym same) in
          let more : 1 + count_job j (item_jobs items) ≤ 1 = rw hit at once in
          let rest : without_jobs (j ∷ []) items ≡ items = none_out j items (omega arith) in
          rw out (rw rest (omega arith)))
      | inr miss ↦
          (let less : 0 + count_job j (item_jobs items) ≤ 1 = rw miss at once in
          let rest : total size_in (without_jobs (j ∷ []) items) + size_of h j.file ≡ total size_in items = one_exact h j items all.1 (rw miss at there) (omega arith) in
          rw (turned_job j i.job miss) (omega arith))
    ]

-- jobs that are claimed, none twice, take their sizes out
pub all_exact : (h : History) (js : List Job) (items : List Item) → AllOf (IsOfFile h) items → AtMostOnce items → list_all (λ j. has_job j (item_jobs items)) js ≡ true → names_twice js ≡ false → total size_in (without_jobs js items) + total (file_size h) js ≡ total size_in items
unfolding total
all_exact h [] items all once there dis = rw (nothing_out items) (omega arith)
  where
    nothing_out : (xs : List Item) → without_jobs [] xs ≡ xs
    nothing_out [] = refl
    nothing_out (x ∷ xs) = ap (λ (ys : List Item). x ∷ ys) (nothing_out xs)
all_exact h (j ∷ js) items all once there dis =
    let parts : (has_job j (item_jobs items) ≡ true) × (list_all (λ j. has_job j (item_jobs items)) js ≡ true) = and_parts _ _ there in
    let d : (has_job j js ≡ false) × (names_twice js ≡ false) = or_none _ _ dis in
    let rest : total size_in (without_jobs js items) + total (file_size h) js ≡ total size_in items = all_exact h js items all once parts.1 d.1 in
    let fewer : count_job j (item_jobs (without_jobs js items)) ≤ 1 = omega (arith, without_count j js items, once j) in
    let one : total size_in (without_jobs (j ∷ []) (without_jobs js items)) + file_size h j ≡ total size_in (without_jobs js items) =
    one_exact h j (without_jobs js items) (all_filter (IsOfFile h) (λ (i : Item). not (has_job i.job js)) items all) (still_there j js items d.0 parts.0) fewer in
    rw (without_twice j js items) (omega arith)

-- ---- sums over numbers, of which one differs

pub total_apart : (g k : ℕ → ℕ) (i : ℕ) (ms : List ℕ) → has_number i ms ≡ false → ((m : ℕ) → has_number m ms ≡ true → (i == m) ≡ false → g m ≡ k m) → total g ms ≡ total k ms
unfolding total
total_apart g k i [] none h = refl
total_apart g k i (m ∷ ms) none h =
    let d : ((i == m) ≡ false) × (has_number i ms ≡ false) = or_none _ _ none in
    let here : g m ≡ k m = h m (or_left (m == m) _ (eq-eqb m m refl)) d.0 in
    let rest : total g ms ≡ total k ms = total_apart g k i ms d.1 (λ n x y. h n (later (n == m) n x) y) in
    omega arith
  where
    later : (b : Bool) (n : ℕ) → has_number n ms ≡ true → (b || has_number n ms) ≡ true
    later true n e = refl
    later false n e = e

pub total_one_exact : (g k : ℕ → ℕ) (i : ℕ) (ms : List ℕ) → IsDistinct ms → has_number i ms ≡ true → ((m : ℕ) → has_number m ms ≡ true → (i == m) ≡ false → g m ≡ k m) → total g ms + k i ≡ total k ms + g i
unfolding total
total_one_exact g k i [] dis there h = absurd (cc)
total_one_exact g k i (m ∷ ms) dis there h =
    elim (bool_cases (i == m)) [
      | inl hit ↦
          (let same : i ≡ m = eqb-true i m hit in
          let none : has_number i ms ≡ false = subst (λ (x : ℕ). has_number x ms ≡ false) (sym same) dis.0 in
          let rest : total g ms ≡ total k ms = total_apart g k i ms none (λ n x y. h n (later (n == m) n x) y) in
          omega (arith, ap g same, ap k same))
      | inr miss ↦
          (let here : g m ≡ k m = h m (or_left (m == m) _ (eq-eqb m m refl)) miss in
          let rest : total g ms + k i ≡ total k ms + g i = total_one_exact g k i ms dis.1 (rw miss at there) (λ n x y. h n (later (n == m) n x) y) in
          omega arith)
    ]
  where
    later : (b : Bool) (n : ℕ) → has_number n ms ≡ true → (b || has_number n ms) ≡ true
    later true n e = refl
    later false n e = e
