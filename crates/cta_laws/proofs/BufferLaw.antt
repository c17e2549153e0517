-- The sizes of resident files and of claimed recalls are at most the limit `buffer`.
use Rattle.std.proofs.Common.{◌≡◌, ℕ, zero, suc, ◌+◌, ◌-◌, ◌≤◌, inl, inr, List, [], ◌∷◌, Bool, true, false, not, refl, sym, ◌∙◌, ap, subst, arith, length}
use Rattle.std.specs.Prelude.{Option, Some, None, is_some, is_none, if◌then◌else◌, ◌==◌, nat_lt, filter}
use Rattle.std.proofs.lemmas.Bool.{and_parts, eqb-true, eq-eqb}
use Rattle.cta_site.specs.declared.site.Site.{Site}
use Rattle.cta_site.specs.Listed.{Listed, rows}
use Rattle.cta_site.specs.Lookups.{class_of}
use Rattle.cta_model.specs.declared.entries.Entry.{Entry}
use Rattle.cta_model.specs.declared.asks.Ask.{Ask}
use Rattle.cta_model.specs.declared.asks.Ask.TheVariants as ask
use Rattle.cta_model.specs.declared.asks.Direction.{Direction}
use Rattle.cta_model.specs.declared.asks.Direction.TheVariants as direction
use Rattle.cta_model.specs.declared.answers.Answer.{Answer}
use Rattle.cta_model.specs.declared.answers.Answer.TheVariants as answer
use Rattle.cta_model.specs.declared.answers.Refusal.TheVariants as refusal
use Rattle.cta_model.specs.declared.asks.Item.{Item}
use Rattle.cta_model.specs.declared.asks.Job.{Job}
use Rattle.cta_model.specs.declared.states.Mount.{Mount}
use Rattle.cta_model.specs.History.{History, entry_of, moment_of, has_number, is_number}
use Rattle.cta_model.specs.Files.{entry_sum, sum_in, sum_of, size_of, is_live, live_file}
use Rattle.cta_model.specs.Mounts.{mount_of, asked_mount, is_mount, is_open, item_jobs, has_job, claimed_items, same_direction}
use Rattle.cta_model.specs.Tapes.{size_of_items}
use Rattle.cta_model.specs.Buffer.{brings_in, evicted_in, evicts, arrival_after, arrival_of, last_arrival}
use Rattle.cta_model.specs.Space.{file_brought, arrived_in, resident_files, size_of_files, bytes_to_read, free_space, may_be_evicted, evictable_files, evictable_size, prefix_of_size, evicted_for}
use Rattle.cta_model.specs.Queues.{queue_of}
use Rattle.cta_model.specs.Batches.{taken_of, read_items, insert_by_fseq, fseq_on, batch_by, batch_of}
use Rattle.cta_site.specs.Paths.{is_path}
use Rattle.cta_model.specs.Answers.{refuse, answer_of, is_accepted, is_too_heavy, is_known, claims_all, put_answer, claim_answer, claim_by, batch_answer}
use Rattle.cta_model.specs.Legal.{IsLegal, IsFit, IsMountOf}
use Rattle.cta_laws.specs.Space.{BufferHasRoom}
use Rattle.cta_laws.proofs.Tests.{bool_cases, or_left, or_right}
use Rattle.cta_laws.proofs.Claims.{AllOf, all_mono, OfJob, items_of}
use Rattle.cta_laws.proofs.EndLaw.{job_among}
use Rattle.cta_laws.proofs.QuotaLaw.{same_way}
use Rattle.cta_laws.proofs.LengthLaw.{not_unknown, ltb_false}
use Rattle.cta_laws.proofs.LostLaw.{live_cases}
use Rattle.cta_laws.proofs.Sums.{total, total_is, total_append, size_in, size_is, size_older, IsOfFile, claimed_of_file, file_size}
use Rattle.cta_laws.proofs.Loads.{took, gave, if_asked, if_zero, claimed_step_total}
use Rattle.cta_laws.proofs.CapacityLaw.{taken_size}

-- ---- the shortest prefix frees enough

pub prefix_enough : (h : History) (n : ℕ) (files : List ℕ) → n ≤ total (size_of h) files → n ≤ total (size_of h) (prefix_of_size h n files)
unfolding total
prefix_enough h zero files low = omega arith
prefix_enough h (suc n) [] low = omega arith
prefix_enough h (suc n) (f ∷ files) low = omega (arith, prefix_enough h (suc n - size_of h f) files (omega arith))

-- ---- resident files after one more entry

pub keep_size : History → Ask → Answer → ℕ → ℕ
keep_size h k a f = if evicts k a f then 0 else size_of h f

-- what is not evicted, and what is
pub kept_and_freed : (h : History) (k : Ask) (a : Answer) (may : ℕ → Bool) (n : ℕ) (xs : List ℕ) → AllOf (λ f. evicts k a f ≡ true) (prefix_of_size h n (filter may xs)) → total (keep_size h k a) xs + total (size_of h) (prefix_of_size h n (filter may xs)) ≤ total (size_of h) xs
unfolding total keep_size
kept_and_freed h k a may zero [] all = omega arith
kept_and_freed h k a may (suc n) [] all = omega arith
kept_and_freed h k a may zero (x ∷ xs) all =
    elim (bool_cases (evicts k a x)) [ inl out ↦ rw out (omega (arith, kept_and_freed h k a may zero xs tt)) | inr stays ↦ rw stays (omega (arith, kept_and_freed h k a may zero xs tt)) ]
kept_and_freed h k a may (suc n) (x ∷ xs) all =
    elim (bool_cases (may x)) [
      | inl can ↦
          (let parts : AllOf (λ f. evicts k a f ≡ true) (x ∷ prefix_of_size h (suc n - size_of h x) (filter may xs)) = rw can at all in
          let out : evicts k a x ≡ true = parts.0 in
          rw (can, out) (omega (arith, kept_and_freed h k a may (suc n - size_of h x) xs parts.1)))
      | inr cannot ↦
          (let rest : AllOf (λ f. evicts k a f ≡ true) (prefix_of_size h (suc n) (filter may xs)) = rw cannot at all in
          elim (bool_cases (evicts k a x)) [
            | inl out ↦ rw (cannot, out) (omega (arith, kept_and_freed h k a may (suc n) xs rest))
            | inr stays ↦ rw (cannot, stays) (omega (arith, kept_and_freed h k a may (suc n) xs rest))
          ])
    ]

pub filter_less : (g k : ℕ → ℕ) (p q : ℕ → Bool) (fs : List ℕ) → ((f : ℕ) → p f ≡ true → (q f ≡ true) × (g f ≤ k f)) → total g (filter p fs) ≤ total k (filter q fs)
unfolding total
filter_less g k p q [] h = omega arith
filter_less g k p q (f ∷ fs) h =
    elim (bool_cases (p f)) [
      | inl hit ↦ (let x : (q f ≡ true) × (g f ≤ k f) = h f hit in rw (hit, x.0) (omega (arith, x.1, filter_less g k p q fs h)))
      | inr miss ↦
          elim (bool_cases (q f)) [ inl y ↦ rw (miss, y) (omega (arith, filter_less g k p q fs h)) | inr y ↦ rw (miss, y) (filter_less g k p q fs h) ]
    ]

pub old_number : (n k : ℕ) → k ≤ n → (k == n + 1) ≡ true → ⊥
old_number n k low e = (let same : k ≡ n + 1 = eqb-true k (n + 1) e in omega arith)

-- a file whose arrival is an older entry arrived by it before, and is not evicted
pub older_arrival : (live brings out : Bool) (n k : ℕ) (o : Option ℕ) → k ≤ n → is_number k (if live then arrival_after brings out (n + 1) o else None) ≡ true → (live ≡ true) × (brings ≡ false) × (out ≡ false) × (is_number k o ≡ true)
older_arrival false brings out n k o low e = absurd (cc)
older_arrival true true out n k o low e = absurd (old_number n k low e)
older_arrival true false true n k o low e = absurd (cc)
older_arrival true false false n k o low e = (refl, refl, refl, e)

pub arrived_before : (e : Entry) (h : History) (k f : ℕ) → k ≤ length h → is_number k (arrival_of (e ∷ h) f) ≡ true → (is_number k (arrival_of h f) ≡ true) × (size_of (e ∷ h) f ≤ keep_size h e.ask e.answer f)
unfolding keep_size
arrived_before e h k f low is =
    let was : (is_live (e ∷ h) f ≡ true) × (brings_in e.ask e.answer (length h + 1) f ≡ false) × (evicts e.ask e.answer f ≡ false) × (is_number k (last_arrival h f) ≡ true) =
    older_arrival (is_live (e ∷ h) f) (brings_in e.ask e.answer (length h + 1) f) (evicts e.ask e.answer f) (length h) k (last_arrival h f) low is in
    elim (live_cases e h f was.0) [
      | inl old ↦
          (let size : size_of (e ∷ h) f ≡ size_of h f = size_older e h f old.0 in
          (rw old.1 was.3, rw was.2 (omega (arith, size))))
      | inr new ↦ (let other : brings_in e.ask e.answer (length h + 1) f ≡ false = was.1 in absurd (cc))
    ]

pub older_part : (e : Entry) (h older : History) → length older ≤ length h → total (size_of (e ∷ h)) (arrived_in (e ∷ h) older) ≤ total (keep_size h e.ask e.answer) (arrived_in h older)
unfolding total
older_part e h [] low = omega arith
older_part e h (x ∷ older) low =
    let rest : total (size_of (e ∷ h)) (arrived_in (e ∷ h) older) ≤ total (keep_size h e.ask e.answer) (arrived_in h older) = older_part e h older (omega arith) in
    let last : total (size_of (e ∷ h)) (filter (λ f. is_number (length older + 1) (arrival_of (e ∷ h) f)) (file_brought x.ask (length older + 1))) ≤ total (keep_size h e.ask e.answer) (filter (λ f. is_number (length older + 1) (arrival_of h f)) (file_brought x.ask (length older + 1))) =
    filter_less (size_of (e ∷ h)) (keep_size h e.ask e.answer) (λ f. is_number (length older + 1) (arrival_of (e ∷ h) f)) (λ f. is_number (length older + 1) (arrival_of h f)) (file_brought x.ask (length older + 1)) (λ f is. arrived_before e h (length older + 1) f (omega arith) is) in
    omega (arith, total_append (size_of (e ∷ h)) (arrived_in (e ∷ h) older) (filter (λ f. is_number (length older + 1) (arrival_of (e ∷ h) f)) (file_brought x.ask (length older + 1))), total_append (keep_size h e.ask e.answer) (arrived_in h older) (filter (λ f. is_number (length older + 1) (arrival_of h f)) (file_brought x.ask (length older + 1))))

-- the size of the file that an ask may bring in
pub brought : History → Ask → ℕ
brought h (ask.Put who path sum) = sum.len
brought h (ask.Recalled m job) = size_of h job.file
brought h _ = 0

pub newest_size : (e : Entry) (h : History) → size_of (e ∷ h) (length h + 1) ≡ (sum_in e.ask).len
newest_size e h = ap (λ (o : Option Entry). (entry_sum o).len) newest
  where
    newest : entry_of (e ∷ h) (length h + 1) ≡ Some e
    newest = rw (eq-eqb (length h + 1) (length h + 1) refl) refl

pub one_file : (g : ℕ → ℕ) (p : ℕ → Bool) (f n : ℕ) → g f ≤ n → total g (filter p (f ∷ [])) ≤ n
unfolding total
one_file g p f n low = elim (bool_cases (p f)) [ inl hit ↦ rw hit (omega arith) | inr miss ↦ rw miss (omega arith) ]

pub claimed_file : (site : Site) (h : History) → IsLegal site h → (m : ℕ) (j : Job) → is_known h m (j ∷ []) ≡ true → j.file ≤ length h
claimed_file site h legal m j known =
    let there : has_job j (item_jobs (claimed_items h m)) ≡ true = (and_parts _ _ (and_parts (claims_all h m (j ∷ [])) _ (and_parts (is_open h m) _ known).1).0).0 in
    job_among (λ (x : Job). x.file ≤ length h) (claimed_items h m) (all_mono (IsOfFile h) (OfJob (λ (x : Job). x.file ≤ length h)) (claimed_items h m) (λ i p. p.1) (claimed_of_file site h legal m)) j there

pub new_part : (site : Site) (h : History) (e : Entry) (p : ℕ → Bool) (k : Ask) (a : Answer) → IsLegal site h → e.ask ≡ k → a ≡ answer_of site h e.at k → is_accepted a ≡ true → total (size_of (e ∷ h)) (filter p (file_brought k (length h + 1))) ≤ brought h k
unfolding total brought
new_part site h e p (ask.Put who path sum) a legal ek is y =
    let len : size_of (e ∷ h) (length h + 1) ≡ sum.len = newest_size e h ∙ ap (λ (k : Ask). (sum_in k).len) ek in
    one_file (size_of (e ∷ h)) p (length h + 1) sum.len (omega (arith, len))
new_part site h e p (ask.Recalled m job) a legal ek is y =
    let low : job.file ≤ length h = claimed_file site h legal m job (not_unknown _ _ a is y) in
    let len : size_of (e ∷ h) job.file ≡ size_of h job.file = size_older e h job.file low in
    one_file (size_of (e ∷ h)) p job.file (size_of h job.file) (omega (arith, len))
new_part site h e p _ a legal ek is y = omega arith

pub resident_step : (site : Site) (h : History) (e : Entry) (may : ℕ → Bool) (n : ℕ) → IsLegal site (e ∷ h) → AllOf (λ f. evicts e.ask e.answer f ≡ true) (prefix_of_size h n (filter may (resident_files h))) → size_of_files (e ∷ h) (resident_files (e ∷ h)) + total (size_of h) (prefix_of_size h n (filter may (resident_files h))) ≤ size_of_files h (resident_files h) + brought h e.ask
resident_step site h e may n legal all =
    let old : total (size_of (e ∷ h)) (arrived_in (e ∷ h) h) ≤ total (keep_size h e.ask e.answer) (resident_files h) = older_part e h h (omega arith) in
    let new : total (size_of (e ∷ h)) (filter (λ f. is_number (length h + 1) (arrival_of (e ∷ h) f)) (file_brought e.ask (length h + 1))) ≤ brought h e.ask =
    new_part site h e (λ f. is_number (length h + 1) (arrival_of (e ∷ h) f)) e.ask e.answer legal.0 refl legal.1.answered legal.1.accepted in
    let out : total (keep_size h e.ask e.answer) (resident_files h) + total (size_of h) (prefix_of_size h n (filter may (resident_files h))) ≤ total (size_of h) (resident_files h) = kept_and_freed h e.ask e.answer may n (resident_files h) all in
    rw (total_is (size_of (e ∷ h)) (resident_files (e ∷ h)), total_is (size_of h) (resident_files h), total_append (size_of (e ∷ h)) (arrived_in (e ∷ h) h) (filter (λ f. is_number (length h + 1) (arrival_of (e ∷ h) f)) (file_brought e.ask (length h + 1))))
    (omega arith)

-- ---- what an entry adds, and what it evicts for that

abbrev pub reads : Mount → Bool
reads x = same_direction x.direction direction.Retrieve

abbrev pub added : History → Ask → Answer → ℕ
added h (ask.Put who path sum) a = sum.len
added h (ask.Claim m) (answer.Batch items evicted) = if is_mount reads (mount_of h m) then size_of_items items.items else 0
added h _ _ = 0

-- an entry makes room: what it adds is free, or is freed by what it evicts
abbrev pub MakesRoom : Site → History → ℕ → Ask → Answer → Type 0
MakesRoom site h t k a =
    (n : ℕ) × AllOf (λ f. evicts k a f ≡ true) (prefix_of_size h n (evictable_files site h t)) × (n ≤ evictable_size site h t) × (added h k a ≤ n + free_space site h)

pub all_in : (P : ℕ → Type 0) (xs : List ℕ) → ((f : ℕ) → has_number f xs ≡ true → P f) → AllOf P xs
all_in P [] h = tt
all_in P (x ∷ xs) h = (h x (or_left (x == x) _ (eq-eqb x x refl)), all_in P xs (λ f e. h f (or_right (f == x) _ e)))

pub stored_by : (heavy bad none taken full : Bool) (ev : List ℕ) (a : Answer) → a ≡ refuse refusal.HistoryFull heavy (refuse refusal.BadPath bad (refuse refusal.NoDirectory none (refuse refusal.PathTaken taken (refuse refusal.NoSpace full (answer.Stored (rows ev)))))) → is_accepted a ≡ true → (full ≡ false) × (a ≡ answer.Stored (rows ev))
stored_by true bad none taken full ev a e y = absurd (cc)
stored_by false true none taken full ev a e y = absurd (cc)
stored_by false false true taken full ev a e y = absurd (cc)
stored_by false false false true full ev a e y = absurd (cc)
stored_by false false false false true ev a e y = absurd (cc)
stored_by false false false false false ev a e y = (refl, e)

pub claimed_by : (site : Site) (h : History) (t : ℕ) (heavy closed : Bool) (o : Option Mount) (items : Listed Item) (evicted : Listed ℕ) → answer.Batch items evicted ≡ refuse refusal.HistoryFull heavy (refuse refusal.Unknown closed (claim_by site h t o)) → (x : Mount) × (o ≡ Some x) × (answer.Batch items evicted ≡ batch_answer site h t x.direction (batch_of site h t x))
claimed_by site h t true closed o items evicted e = absurd (cc)
claimed_by site h t false true o items evicted e = absurd (cc)
claimed_by site h t false false None items evicted e = absurd (cc)
claimed_by site h t false false (Some x) items evicted e = (x, refl, e)

pub read_evicts : (site : Site) (h : History) (t : ℕ) (b : List Item) (items : Listed Item) (evicted : Listed ℕ) → answer.Batch items evicted ≡ batch_answer site h t direction.Retrieve b → evicted.items ≡ evicted_for site h t (size_of_items b)
read_evicts site h t [] items evicted e = absurd (cc)
read_evicts site h t (i ∷ b) items evicted e = ap (evicted_in (ask.Claim 0)) e

pub insert_size : (i : Item) (ks : List Item) → total size_in (insert_by_fseq i ks) ≡ i.sum.len + total size_in ks
unfolding total
insert_size i [] = refl
insert_size i (k ∷ ks) =
    elim (bool_cases (nat_lt i.fseq k.fseq)) [ inl hit ↦ rw hit refl | inr miss ↦ rw miss (omega (arith, insert_size i ks)) ]

pub read_size : (site : Site) (h : History) (v : ℕ) (js : List Job) → total size_in (read_items site h v js) ≡ total (file_size h) js
unfolding total
read_size site h v [] = refl
read_size site h v (j ∷ js) = omega (arith, insert_size (record { job = j; fseq = fseq_on site h v j.file; sum = sum_of h j.file }) (read_items site h v js), read_size site h v js)

pub read_fits : (site : Site) (h : History) (t v : ℕ) → size_of_items (batch_by site h t direction.Retrieve v) ≤ free_space site h + evictable_size site h t
read_fits site h t v =
    rw (size_is (read_items site h v (taken_of h site.limits.batch_files (free_space site h + evictable_size site h t) (queue_of site h direction.Retrieve v))), read_size site h v (taken_of h site.limits.batch_files (free_space site h + evictable_size site h t) (queue_of site h direction.Retrieve v)))
    (taken_size h site.limits.batch_files (free_space site h + evictable_size site h t) (queue_of site h direction.Retrieve v))

pub claim_room : (site : Site) (h : History) (t m : ℕ) (x : Mount) (items : Listed Item) (evicted : Listed ℕ) → mount_of h m ≡ Some x → answer.Batch items evicted ≡ batch_answer site h t x.direction (batch_of site h t x) → MakesRoom site h t (ask.Claim m) (answer.Batch items evicted)
claim_room site h t m x items evicted is e =
    elim (bool_cases (reads x)) [
      | inl hit ↦
          (let way : x.direction ≡ direction.Retrieve = same_way x.direction direction.Retrieve hit in
          let same : items.items ≡ batch_of site h t x = (items_of site h t x.direction (batch_of site h t x) items evicted e).0 in
          let batch : batch_of site h t x ≡ batch_by site h t direction.Retrieve x.tape = ap (λ (w : Direction). batch_by site h t w x.tape) way in
          let fits : size_of_items items.items ≤ free_space site h + evictable_size site h t = subst (λ (xs : List Item). size_of_items xs ≤ free_space site h + evictable_size site h t) (sym (same ∙ batch)) (read_fits site h t x.tape) in
          let there : answer.Batch items evicted ≡ batch_answer site h t direction.Retrieve (batch_of site h t x) = e ∙ ap (λ (w : Direction). batch_answer site h t w (batch_of site h t x)) way in
          let ev : evicted.items ≡ evicted_for site h t (size_of_items items.items) = read_evicts site h t (batch_of site h t x) items evicted there ∙ ap (λ (xs : List Item). evicted_for site h t (size_of_items xs)) (sym same) in (
            size_of_items items.items - free_space site h,
            all_in (λ f. evicts (ask.Claim m) (answer.Batch items evicted) f ≡ true) (evicted_for site h t (size_of_items items.items)) (λ f i. subst (λ (xs : List ℕ). has_number f xs ≡ true) (sym ev) i),
            omega arith,
            at_most (is_mount reads (mount_of h m)) (size_of_items items.items) (free_space site h),
          ))
      | inr miss ↦
          (let other : is_mount reads (mount_of h m) ≡ false = ap (is_mount reads) is ∙ miss in
          (0, tt, omega arith, rw other (omega arith)))
    ]
  where
    at_most : (b : Bool) (n free : ℕ) → (if b then n else 0) ≤ (n - free) + free
    at_most true n free = omega arith
    at_most false n free = omega arith

pub makes_room : (site : Site) (h : History) (t : ℕ) (k : Ask) (a : Answer) → a ≡ answer_of site h t k → is_accepted a ≡ true → MakesRoom site h (moment_of h t) k a
makes_room site h t (ask.Put who path sum) a is y =
    let stored : (nat_lt (free_space site h + evictable_size site h (moment_of h t)) sum.len ≡ false) × (a ≡ answer.Stored (rows (evicted_for site h (moment_of h t) sum.len))) =
    stored_by (is_too_heavy site h (ask.Put who path sum) (put_answer site h (moment_of h t) path sum.len)) (not (is_path path)) (is_none (class_of site path)) (is_some (live_file h path)) (nat_lt (free_space site h + evictable_size site h (moment_of h t)) sum.len) (evicted_for site h (moment_of h t) sum.len) a is y in
    let fits : sum.len ≤ free_space site h + evictable_size site h (moment_of h t) = ltb_false _ _ stored.0 in (
      sum.len - free_space site h,
      all_in (λ f. evicts (ask.Put who path sum) a f ≡ true) (evicted_for site h (moment_of h t) sum.len) (λ f i. subst (λ (x : Answer). evicts (ask.Put who path sum) x f ≡ true) (sym stored.1) i),
      omega arith,
      omega arith,
    )
makes_room site h t (ask.Claim m) (answer.Batch items evicted) is y =
    let x : (x : Mount) × (mount_of h m ≡ Some x) × (answer.Batch items evicted ≡ batch_answer site h (moment_of h t) x.direction (batch_of site h (moment_of h t) x)) =
    claimed_by site h (moment_of h t) (is_too_heavy site h (ask.Claim m) (claim_answer site h (moment_of h t) m)) (not (is_open h m)) (mount_of h m) items evicted is in
    claim_room site h (moment_of h t) m x.0 items evicted x.1 x.2
makes_room site h t _ a is y = (0, tt, omega arith, omega arith)

-- what comes into the buffer and into claims was added, or leaves the claims
pub mount_gives : (o : Option Mount) (n : ℕ) → IsMountOf direction.Retrieve o → n ≤ (if is_mount reads o then n else 0)
mount_gives None n way = absurd way
mount_gives (Some x) n way = subst (λ (w : Direction). n ≤ (if same_direction w direction.Retrieve then n else 0)) (sym way) (omega arith)

pub balance : (site : Site) (h : History) (k : Ask) (a : Answer) → IsFit site h k → brought h k + if_asked reads h k (took k a) ≤ added h k a + if_asked reads h k (gave h k)
unfolding brought
balance site h (ask.Put who path sum) a fit = omega (arith, if_zero (is_mount reads (mount_of h 0)))
balance site h (ask.Recalled m job) a fit = omega (arith, if_zero (is_mount reads (mount_of h m)), mount_gives (mount_of h m) (size_of h job.file) fit)
balance site h (ask.Claim m) (answer.Batch items evicted) fit = omega arith
balance site h k a fit = omega (arith, if_zero (is_mount reads (mount_of h (asked_mount k))))

pub within : (r c rn cn freed n free bring gave took add buffer : ℕ) → r + c ≤ buffer → free ≡ buffer - (r + c) → rn + freed ≤ r + bring → cn + gave ≤ c + took → n ≤ freed → add ≤ n + free → bring + took ≤ add + gave → rn + cn ≤ buffer
within r c rn cn freed n free bring gave took add buffer a b d e f g i = omega arith

pub buffer_has_room : BufferHasRoom
buffer_has_room site [] legal = omega arith
buffer_has_room site (e ∷ h) legal =
    let t : ℕ = moment_of h e.at in
    let room : MakesRoom site h (moment_of h e.at) e.ask e.answer = makes_room site h e.at e.ask e.answer legal.1.answered legal.1.accepted in
    let size : evictable_size site h (moment_of h e.at) ≡ total (size_of h) (evictable_files site h (moment_of h e.at)) = total_is (size_of h) (evictable_files site h (moment_of h e.at)) in
    let enough : room.0 ≤ total (size_of h) (prefix_of_size h room.0 (evictable_files site h (moment_of h e.at))) = prefix_enough h room.0 (evictable_files site h (moment_of h e.at)) (subst (λ (n : ℕ). room.0 ≤ n) size room.2) in
    within (size_of_files h (resident_files h)) (bytes_to_read h) (size_of_files (e ∷ h) (resident_files (e ∷ h))) (bytes_to_read (e ∷ h)) (total (size_of h) (prefix_of_size h room.0 (evictable_files site h (moment_of h e.at)))) room.0 (free_space site h) (brought h e.ask) (if_asked reads h e.ask (gave h e.ask)) (if_asked reads h e.ask (took e.ask e.answer)) (added h e.ask e.answer) site.limits.buffer
    (buffer_has_room site h legal.0) refl
    (resident_step site h e (may_be_evicted site h (moment_of h e.at)) room.0 legal room.1)
    (claimed_step_total reads site h e legal)
    enough room.3 (balance site h e.ask e.answer legal.1.fit)
