-- The items of a batch are in order of fSeq, and no two have the same.
use Rattle.std.proofs.Common.{◌≡◌, ℕ, zero, suc, ◌+◌, ◌-◌, ◌≤◌, ◌<◌, inl, inr, List, [], ◌∷◌, Bool, true, false, ◌&&◌, ◌||◌, not, refl, sym, ap, subst, arith, length, ◌∙◌}
use Rattle.std.specs.Prelude.{Option, Some, None, is_none, option_map, if◌then◌else◌, ◌==◌, ◌%◌, nat_le, nat_lt, find, filter, slice_get}
use Rattle.std.specs.List.{list_any, AllByRecursion, range_with_len}
use Rattle.std.proofs.lemmas.Bool.{and_parts, eqb-true, eq-eqb}
use Rattle.std.proofs.lemmas.Bool.Decides.{nat_tests}
use Rattle.cta_site.specs.declared.site.Site.{Site}
use Rattle.cta_site.specs.Listed.{Listed}
use Rattle.cta_site.specs.Lookups.{capacity_of, pool_of_tape}
use Rattle.cta_model.specs.declared.entries.Entry.{Entry}
use Rattle.cta_model.specs.declared.asks.Ask.{Ask}
use Rattle.cta_model.specs.declared.asks.Ask.TheVariants as ask
use Rattle.cta_model.specs.declared.asks.Direction.{Direction}
use Rattle.cta_model.specs.declared.asks.Direction.TheVariants as direction
use Rattle.cta_model.specs.declared.asks.Item.{Item}
use Rattle.cta_model.specs.declared.asks.Job.{Job}
use Rattle.cta_model.specs.declared.answers.Answer.{Answer}
use Rattle.cta_model.specs.declared.answers.Answer.TheVariants as answer
use Rattle.cta_model.specs.declared.states.Place.{Place}
use Rattle.cta_model.specs.History.{History, moment_of, is_number}
use Rattle.cta_model.specs.Files.{size_of, sum_of, copies_of_file, copy_numbers}
use Rattle.cta_model.specs.Mounts.{mount_of, same_direction, same_job, has_job, claimer_of, job_of}
use Rattle.cta_model.specs.Tapes.{tape_state, is_broken, may_be_read, next_fseq, used_bytes}
use Rattle.cta_model.specs.Places.{place_of, all_places, places_of}
use Rattle.cta_model.specs.Space.{free_space, evictable_size}
use Rattle.cta_model.specs.Recalls.{Recall, live_recall}
use Rattle.cta_model.specs.Jobs.{is_live_job, live_birth, jobs_born}
use Rattle.cta_model.specs.Charges.{charges_of}
use Rattle.cta_model.specs.Queues.{queue_of, is_queued, direction_of, way_by, key_of, key_by, tape_of_recall, sources_of, or_else}
use Rattle.cta_model.specs.Batches.{taken_of, written_items, read_items, insert_by_fseq, fseq_on, fseq_by, batch_by, batch_of}
use Rattle.cta_model.specs.Answers.{answer_of}
use Rattle.cta_model.specs.Legal.{IsLegal}
use Rattle.cta_laws.specs.Places.{AreInTurn, AreRising, BatchesAreRising}
use Rattle.cta_laws.specs.Jobs.{count_job}
use Rattle.cta_laws.proofs.Tests.{bool_cases, or_left, or_right, or_cases}
use Rattle.cta_laws.proofs.Ranges.{all_filter_map, range_all}
use Rattle.cta_laws.proofs.Claims.{AllOf, IsBatch, claim_is_batch, all_filter, all_pass, all_mono, insert_all, taken_all}
use Rattle.cta_laws.proofs.OnceLaw.{same_job_eq}
use Rattle.cta_laws.proofs.JobLists.{job_self}
use Rattle.cta_laws.proofs.KeyLaw.{else_all}
use Rattle.cta_laws.proofs.ClaimedOnce.{queue_once, taken_count}
use Rattle.cta_laws.proofs.FlushedNumbers.{written_numbered}
use Rattle.cta_laws.proofs.TapeItems.{places_are_apart, turn_above}

-- ---- a batch for writing

rising_turn : (s : ℕ) (items : List Item) → AreInTurn s items → AreRising items
unfolding AreInTurn
rising_turn s [] turn = tt
rising_turn s (i ∷ items) turn = (let first : i.fseq ≡ s = turn.0 in (turn_above i.fseq (s + 1) items (omega arith) turn.1, rising_turn (s + 1) items turn.1))

-- ---- the source of a queued recall

-- a place is that of a copy of the file
abbrev pub IsPlaceOf : History → ℕ → Place → Type 0
IsPlaceOf h f p = (c : ℕ) × (place_of h f c ≡ Some p)

pub sources_are_places : (site : Site) (h : History) (f : ℕ) → AllOf (IsPlaceOf h f) (sources_of site h f)
sources_are_places site h f =
    let all : AllOf (IsPlaceOf h f) (all_places site h f) = all_filter_map (IsPlaceOf h f) (place_of h f) (copy_numbers site h f) (range_all (λ c. (p : Place) → place_of h f c ≡ Some p → IsPlaceOf h f p) 1 (copies_of_file site h f) (λ c low high p is. (c, is))) in
    let whole : AllOf (IsPlaceOf h f) (places_of site h f) = all_filter (IsPlaceOf h f) (λ (p : Place). not (is_broken (tape_state site h p.tape))) (all_places site h f) all in
    else_all (IsPlaceOf h f) (filter (λ (p : Place). may_be_read (tape_state site h p.tape)) (places_of site h f)) (places_of site h f) (all_filter (IsPlaceOf h f) (λ (p : Place). may_be_read (tape_state site h p.tape)) (places_of site h f) whole) whole

-- a source on the tape is found where the recall's tape is that tape
pub source_there : (v i : ℕ) (ps : List Place) → is_number v (option_map (λ (p : Place). p.tape) (slice_get ps i)) ≡ true → list_any (λ (p : Place). p.tape == v) ps ≡ true
source_there v i [] e = absurd (cc)
source_there v zero (p ∷ ps) e = or_left (p.tape == v) _ (eq-eqb p.tape v (sym (eqb-true v p.tape e)))
source_there v (suc i) (p ∷ ps) e = or_right (p.tape == v) _ (source_there v i ps e)

pub found_place : (P : Place → Type 0) (v : ℕ) (ps : List Place) → AllOf P ps → list_any (λ (p : Place). p.tape == v) ps ≡ true → (p : Place) × (find (λ (q : Place). q.tape == v) ps ≡ Some p) × (p.tape ≡ v) × P p
found_place P v [] all e = absurd (cc)
found_place P v (p ∷ ps) all e =
    elim (bool_cases (p.tape == v)) [
      | inl hit ↦ (p, rw hit refl, eqb-true p.tape v hit, all.0)
      | inr miss ↦ (let q = found_place P v ps all.1 (rw miss at e) in (q.0, rw miss q.1, q.2, q.3))
    ]

-- a job that is to be read from a tape: it is a live recall, and its item has the fSeq of a place of its file on the tape
record IsToRead (site : Site) (h : History) (v : ℕ) (j : Job) : Type 0 where
  live : is_live_job site h j ≡ true
  recall : j.copy ≡ 0
  copy : ℕ
  place : Place
  at : place_of h j.file copy ≡ Some place
  on : place.tape ≡ v
  fseq : fseq_on site h v j.file ≡ place.fseq

pub recall_copy : (c : ℕ) → same_direction direction.Retrieve (way_by c) ≡ true → c ≡ 0
recall_copy zero e = refl
recall_copy (suc c) e = absurd (cc)

to_read : (site : Site) (h : History) (v : ℕ) (j : Job) → is_queued site h direction.Retrieve v j ≡ true → IsToRead site h v j
to_read site h v j e =
    let a = and_parts (is_live_job site h j) _ e in
    let b = and_parts (same_direction direction.Retrieve (direction_of j)) _ a.1 in
    let k : is_number v (key_of site h j) ≡ true = (and_parts (is_none (claimer_of h j)) _ b.1).1 in
    let none : j.copy ≡ 0 = recall_copy j.copy b.0 in
    let key : is_number v (tape_of_recall site h j) ≡ true = subst (λ (c : ℕ). is_number v (key_by c site h j) ≡ true) none k in
    let q = found_place (IsPlaceOf h j.file) v (sources_of site h j.file) (sources_are_places site h j.file) (source_there v (length (charges_of h j) % length (sources_of site h j.file)) (sources_of site h j.file) key) in
    record { live = a.0; recall = none; copy = q.3.0; place = q.0; at = q.3.1; on = q.2; fseq = ap fseq_by q.1 }

-- ---- jobs to read that differ have files that differ

same_number : (a b : ℕ) (o : Option ℕ) → is_number a o ≡ true → is_number b o ≡ true → a ≡ b
same_number a b None x y = absurd (cc)
same_number a b (Some n) x y = eqb-true a n x ∙ sym (eqb-true b n y)

one_recall : (site : Site) (h : History) (v : ℕ) (j k : Job) → IsToRead site h v j → IsToRead site h v k → j.file ≡ k.file → same_job j k ≡ true
one_recall site h v j k a b file =
    let copies : j.copy ≡ k.copy = a.recall ∙ sym b.recall in
    let there : is_number k.birth (live_birth site h j.file j.copy) ≡ true = subst (λ (c : ℕ). is_number k.birth (live_birth site h j.file c) ≡ true) (sym copies) (subst (λ (f : ℕ). is_number k.birth (live_birth site h f k.copy) ≡ true) (sym file) b.live) in
    rw (eq-eqb j.birth k.birth (same_number j.birth k.birth (live_birth site h j.file j.copy) a.live there), eq-eqb j.file k.file file, eq-eqb j.copy k.copy copies) refl

-- one item more at its place
above_insert : (n : ℕ) (i : Item) (ks : List Item) → n < i.fseq → AllByRecursion (λ (k : Item). n < k.fseq) ks → AllByRecursion (λ (k : Item). n < k.fseq) (insert_by_fseq i ks)
above_insert n i [] low all = (low, tt)
above_insert n i (k ∷ ks) low all =
    elim (nat_lt i.fseq k.fseq) as (λ b. AllByRecursion (λ (x : Item). n < x.fseq) (if b then i ∷ k ∷ ks else k ∷ insert_by_fseq i ks))
    [ true ↦ (low, all) | false ↦ (all.0, above_insert n i ks low all.1) ]

above_all : (n m : ℕ) (ks : List Item) → n < m → AllByRecursion (λ (k : Item). m < k.fseq) ks → AllByRecursion (λ (k : Item). n < k.fseq) ks
above_all n m [] low all = tt
above_all n m (k ∷ ks) low all = (let here : m < k.fseq = all.0 in (omega arith, above_all n m ks low all.1))

rising_insert : (i : Item) (ks : List Item) → AreRising ks → AllOf (λ (k : Item). k.fseq ≡ i.fseq → ⊥) ks → AreRising (insert_by_fseq i ks)
rising_insert i [] rising apart = (tt, tt)
rising_insert i (k ∷ ks) rising apart =
    elim (bool_cases (nat_lt i.fseq k.fseq)) [
      | inl low ↦ (let below : i.fseq < k.fseq = grind (arith, nat_tests) in rw low ((below, above_all i.fseq k.fseq ks below rising.0), rising))
      | inr high ↦
          (let least : k.fseq ≤ i.fseq = grind (arith, nat_tests) in
          let other : k.fseq ≡ i.fseq → ⊥ = apart.0 in
          let below : k.fseq < i.fseq = by least other in
          rw high (above_insert k.fseq i ks below rising.0, rising_insert i ks rising.1 apart.1))
    ]
  where
    by : k.fseq ≤ i.fseq → (k.fseq ≡ i.fseq → ⊥) → k.fseq < i.fseq
    by a b = omega arith

-- what is read of jobs that are none of them twice
read_of : (P : Item → Type 0) (site : Site) (h : History) (v : ℕ) (js : List Job) → AllOf (λ (j : Job). P (record { job = j; fseq = fseq_on site h v j.file; sum = sum_of h j.file })) js → AllOf P (read_items site h v js)
read_of P site h v [] all = tt
read_of P site h v (j ∷ js) all = insert_all P (record { job = j; fseq = fseq_on site h v j.file; sum = sum_of h j.file }) (read_items site h v js) all.0 (read_of P site h v js all.1)

others_apart : (site : Site) (h : History) → IsLegal site h → (v : ℕ) (j : Job) (js : List Job) → IsToRead site h v j → AllOf (IsToRead site h v) js → count_job j js ≡ 0 → AllOf (λ (k : Job). fseq_on site h v k.file ≡ fseq_on site h v j.file → ⊥) js
others_apart site h legal v j [] a all none = tt
others_apart site h legal v j (k ∷ js) a all none = (λ same. apart same, others_apart site h legal v j js a all.1 (rest (same_job j k) (count_job j js) none))
  where
    rest : (b : Bool) (n : ℕ) → (if b then 1 else 0) + n ≡ 0 → n ≡ 0
    rest true n e = omega arith
    rest false n e = omega arith

    never : (b : Bool) (n : ℕ) → b ≡ true → (if b then 1 else 0) + n ≡ 0 → ⊥
    never true n e z = omega arith
    never false n e z = absurd (cc)

    apart : fseq_on site h v k.file ≡ fseq_on site h v j.file → ⊥
    apart same =
        (let b : IsToRead site h v k = all.0 in
        let fseqs : b.place.fseq ≡ a.place.fseq = sym b.fseq ∙ same ∙ a.fseq in
        let files : k.file ≡ j.file = (places_are_apart site h legal k.file b.copy j.file a.copy b.place a.place b.at a.at (b.on ∙ sym a.on) fseqs).0 in
        never (same_job j k) (count_job j js) (one_recall site h v j k a b (sym files)) none)

AreOnce : List Job → Type 0
AreOnce js = (j : Job) → count_job j js ≤ 1

read_rising : (site : Site) (h : History) → IsLegal site h → (v : ℕ) (js : List Job) → AllOf (IsToRead site h v) js → AreOnce js → AreRising (read_items site h v js)
unfolding AreOnce
read_rising site h legal v [] all once = tt
read_rising site h legal v (j ∷ js) all once =
    rising_insert (record { job = j; fseq = fseq_on site h v j.file; sum = sum_of h j.file }) (read_items site h v js)
    (read_rising site h legal v js all.1 (λ k. less (same_job k j) (count_job k js) (once k)))
    (read_of (λ (k : Item). k.fseq ≡ fseq_on site h v j.file → ⊥) site h v js (others_apart site h legal v j js all.0 all.1 (first (same_job j j) (count_job j js) (job_self j) (once j))))
  where
    less : (b : Bool) (n : ℕ) → (if b then 1 else 0) + n ≤ 1 → n ≤ 1
    less true n e = omega arith
    less false n e = omega arith

    first : (b : Bool) (n : ℕ) → b ≡ true → (if b then 1 else 0) + n ≤ 1 → n ≡ 0
    first true n e low = omega arith
    first false n e low = absurd (cc)

-- ---- what is taken of a queue

queue_to_read : (site : Site) (h : History) (v : ℕ) → AllOf (IsToRead site h v) (queue_of site h direction.Retrieve v)
queue_to_read site h v = all_mono (λ j. is_queued site h direction.Retrieve v j ≡ true) (IsToRead site h v) (queue_of site h direction.Retrieve v) (λ j e. to_read site h v j e) (all_pass (is_queued site h direction.Retrieve v) (jobs_born site h))

batch_rising : (site : Site) (h : History) → IsLegal site h → (t : ℕ) (way : Direction) (v : ℕ) → AreRising (batch_by site h t way v)
unfolding AreOnce
batch_rising site h legal t direction.Archive v = rising_turn (next_fseq h v) _ (written_numbered h (next_fseq h v) (taken_of h site.limits.batch_files (capacity_of site v - used_bytes h v) (queue_of site h direction.Archive (pool_of_tape site v))))
batch_rising site h legal t direction.Retrieve v =
    read_rising site h legal v (taken_of h site.limits.batch_files (free_space site h + evictable_size site h t) (queue_of site h direction.Retrieve v))
    (taken_all (IsToRead site h v) h site.limits.batch_files (free_space site h + evictable_size site h t) (queue_of site h direction.Retrieve v) (queue_to_read site h v))
    (λ j. omega (arith, taken_count h site.limits.batch_files (free_space site h + evictable_size site h t) (queue_of site h direction.Retrieve v) j, queue_once site h legal direction.Retrieve v j))

pub batches_are_rising : BatchesAreRising
batches_are_rising site h e legal m items evicted ek ea =
    let is : answer.Batch items evicted ≡ answer_of site h e.at (ask.Claim m) = sym ea ∙ legal.1.answered ∙ ap (answer_of site h e.at) ek in
    let b : IsBatch site h (moment_of h e.at) (mount_of h m) items.items = claim_is_batch site h e.at m items evicted is in
    subst (λ (xs : List Item). AreRising xs) (sym b.2) (batch_rising site h legal.0 (moment_of h e.at) b.0.direction b.0.tape)
