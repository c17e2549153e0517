-- A live file's place is below its tape's next fSeq.
use Rattle.std.proofs.Common.{◌≡◌, ℕ, suc, ◌+◌, ◌-◌, ◌≤◌, inl, inr, List, [], ◌∷◌, ◌++◌, Bool, true, false, ◌||◌, not, refl, sym, ◌∙◌, ap, subst, arith, length, length-append}
use Rattle.std.specs.Prelude.{Option, Some, None, if◌then◌else◌, ◌==◌, nat_le, filter}
use Rattle.std.specs.List.{list_any}
use Rattle.std.proofs.lemmas.Bool.{and_parts, eqb-true, eq-eqb}
use Rattle.cta_site.specs.declared.site.Site.{Site}
use Rattle.cta_site.specs.Lookups.{capacity_of, pool_of_tape}
use Rattle.cta_model.specs.declared.asks.Ask.{Ask}
use Rattle.cta_model.specs.declared.asks.Ask.TheVariants as ask
use Rattle.cta_model.specs.declared.answers.Answer.{Answer}
use Rattle.cta_model.specs.declared.answers.Answer.TheVariants as answer
use Rattle.cta_model.specs.declared.asks.Direction.{Direction}
use Rattle.cta_model.specs.declared.asks.Direction.TheVariants as direction
use Rattle.cta_model.specs.declared.asks.Job.{Job}
use Rattle.cta_model.specs.declared.asks.Item.{Item}
use Rattle.cta_model.specs.declared.states.Mount.{Mount}
use Rattle.cta_model.specs.History.{History, moment_of, has_number, is_empty}
use Rattle.cta_model.specs.Mounts.{mount_of, tape_by, tape_of_mount, asked_mount, open_mounts, open_after, is_mount, is_mounted, is_open, same_job, item_jobs, last_batch, batch_in, batch_or}
use Rattle.cta_model.specs.Tapes.{tape_items, items_after, next_fseq, is_broken, tape_state, used_bytes}
use Rattle.cta_model.specs.Queues.{queue_of}
use Rattle.cta_model.specs.Batches.{written_items, batch_of, batch_by, taken_of}
use Rattle.cta_model.specs.Answers.{answer_of, is_accepted, is_too_heavy, is_known, is_last_batch, same_items, same_item, reclaim_answer}
use Rattle.cta_model.specs.Places.{live_items_on}
use Rattle.cta_model.specs.Legal.{IsLegal, IsFit, IsMountOf}
use Rattle.cta_laws.specs.Places.{is_item_of, PlacesBelow}
use Rattle.cta_laws.proofs.Tests.{bool_cases, or_left, or_right, not_next}
use Rattle.cta_laws.proofs.OpenMounts.{mount_older, open_older}
use Rattle.cta_laws.proofs.Claims.{AllOf, all_append, all_mono, IsBatch, claim_is_batch, claim_is_open}
use Rattle.cta_laws.proofs.PlaceLaw.{places_on_tape, flushed_known, reclaim_none}

-- ---- the mount of a claim is open, and older

pub claim_older : (site : Site) (h : History) (t m : ℕ) (k : Ask) (a : Answer) (o : Option (List Item)) (items : List Item) → a ≡ answer_of site h t k → (o ≡ Some items → m ≤ length h) → batch_or (batch_in k a m) o ≡ Some items → m ≤ length h
claim_older site h t m (ask.Claim k) (answer.Batch xs evicted) o items is older =
    elim (bool_cases (k == m)) [
      | inl hit ↦ λ e. (let same : k ≡ m = eqb-true k m hit in subst (λ (x : ℕ). x ≤ length h) same (open_older h k (claim_is_open site h t k xs evicted is)))
      | inr miss ↦ λ e. older (rw miss at e)
    ]
claim_older site h t m _ a o items is older = λ e. older e

pub last_older : (site : Site) (h : History) → IsLegal site h → (m : ℕ) (items : List Item) → last_batch h m ≡ Some items → m ≤ length h
last_older site [] legal m items e = absurd (cc)
last_older site (e ∷ h) legal m items is =
    let low : m ≤ length h = claim_older site h e.at m e.ask e.answer (last_batch h m) items legal.1.answered (λ q. last_older site h legal.0 m items q) is in
    omega arith

-- ---- an open mount was open

pub any_filter : (test : ℕ → Bool) (m : ℕ) (ms : List ℕ) → has_number m (filter test ms) ≡ true → has_number m ms ≡ true
any_filter test m [] = λ e. e
any_filter test m (k ∷ ms) =
    elim (test k) as (λ b. has_number m (if b then k ∷ filter test ms else filter test ms) ≡ true → ((m == k) || has_number m ms) ≡ true) [
      | true ↦ λ e. elim (bool_cases (m == k)) [ inl hit ↦ or_left (m == k) _ hit | inr miss ↦ or_right (m == k) _ (any_filter test m ms (rw miss at e)) ]
      | false ↦ λ e. or_right (m == k) _ (any_filter test m ms e)
    ]

pub was_open : (k : Ask) (a : Answer) (n m : ℕ) (ms : List ℕ) → (m == n) ≡ false → has_number m (open_after k a n ms) ≡ true → has_number m ms ≡ true
was_open (ask.Next d) (answer.Mounted u way v) n m ms d' e = rw d' at e
was_open (ask.End u f) a n m ms d' e = any_filter (λ k. not (k == u)) m ms e
was_open _ a n m ms d' e = e

pub mounted_any : (h : History) (m : ℕ) (x : Mount) (ms : List ℕ) → mount_of h m ≡ Some x → has_number m ms ≡ true → list_any (λ k. is_mount (λ (y : Mount). y.tape == x.tape) (mount_of h k)) ms ≡ true
mounted_any h m x [] is e = absurd (cc)
mounted_any h m x (k ∷ ms) is e =
    elim (bool_cases (m == k)) [
      | inl hit ↦
          (let same : m ≡ k = eqb-true m k hit in
          let here : mount_of h k ≡ Some x = subst (λ (u : ℕ). mount_of h u ≡ Some x) same is in
          or_left (is_mount (λ (y : Mount). y.tape == x.tape) (mount_of h k)) _ (rw here (eq-eqb x.tape x.tape refl)))
      | inr miss ↦ or_right (is_mount (λ (y : Mount). y.tape == x.tape) (mount_of h k)) _ (mounted_any h m x ms is (rw miss at e))
    ]

-- ---- a batch for writing is numbered from the next fSeq

pub written_length : (h : History) (s : ℕ) (js : List Job) → length (written_items h s js) ≡ length js
written_length h s [] = refl
written_length h s (j ∷ js) = ap suc (written_length h (s + 1) js)

pub written_up_to : (h : History) (s n : ℕ) (js : List Job) → s + length js ≤ n + 1 → AllOf (λ (i : Item). i.fseq ≤ n) (written_items h s js)
written_up_to h s n [] low = tt
written_up_to h s n (j ∷ js) low = (omega arith, written_up_to h (s + 1) n js (omega arith))

-- the items fit behind those on the tape
pub FitsBehind : ℕ → List Item → Type 0
FitsBehind n items = AllOf (λ (i : Item). i.fseq ≤ n + length items) items

pub fits_more : (n k : ℕ) (items : List Item) → n ≤ k → FitsBehind n items → FitsBehind k items
unfolding FitsBehind
fits_more n k items low fits = all_mono (λ (i : Item). i.fseq ≤ n + length items) (λ (i : Item). i.fseq ≤ k + length items) items (λ i q. omega arith) fits

pub written_fits : (site : Site) (h : History) (t : ℕ) (way : Direction) (v : ℕ) → way ≡ direction.Archive → AllOf (λ (i : Item). i.fseq ≤ length (tape_items h v) + length (batch_by site h t way v)) (batch_by site h t way v)
written_fits site h t direction.Archive v e =
    (let q : List Job = taken_of h site.limits.batch_files (capacity_of site v - used_bytes h v) (queue_of site h direction.Archive (pool_of_tape site v)) in
    written_up_to h (next_fseq h v) (length (tape_items h v) + length (written_items h (next_fseq h v) q)) q (rw (written_length h (next_fseq h v) q) (omega arith)))
written_fits site h t direction.Retrieve v e = absurd (cc)

pub batch_fits : (site : Site) (h : History) (t : ℕ) (x : Mount) → x.direction ≡ direction.Archive → FitsBehind (length (tape_items h x.tape)) (batch_of site h t x)
unfolding FitsBehind
batch_fits site h t x way = written_fits site h t x.direction x.tape way

-- ---- the last Claim of an open writing mount fits behind its tape's items

pub way_of : (o : Option Mount) (x : Mount) → o ≡ Some x → IsMountOf direction.Archive o → x.direction ≡ direction.Archive
way_of o x is way = subst (λ (p : Option Mount). IsMountOf direction.Archive p) is way

pub claim_fits : (site : Site) (h : History) (t m : ℕ) (k : Ask) (a : Answer) (o : Option (List Item)) (items : List Item) → a ≡ answer_of site h t k → IsMountOf direction.Archive (mount_of h m) → ((xs : List Item) → o ≡ Some xs → FitsBehind (length (tape_items h (tape_of_mount h m))) xs) → batch_or (batch_in k a m) o ≡ Some items → FitsBehind (length (tape_items h (tape_of_mount h m))) items
claim_fits site h t m (ask.Claim k) (answer.Batch xs evicted) o items is way older =
    elim (bool_cases (k == m)) [
      | inl hit ↦ λ e.
          (let got : Some xs.items ≡ Some items = rw hit at e in
          let same : xs.items ≡ items = cc in
          let mount : k ≡ m = eqb-true k m hit in
          let b : IsBatch site h (moment_of h t) (mount_of h k) xs.items = claim_is_batch site h t k xs evicted is in
          let there : mount_of h m ≡ Some b.0 = subst (λ (u : ℕ). mount_of h u ≡ Some b.0) mount b.1 in
          let tape : tape_of_mount h m ≡ b.0.tape = ap tape_by there in
          let fits : FitsBehind (length (tape_items h b.0.tape)) (batch_of site h (moment_of h t) b.0) = batch_fits site h (moment_of h t) b.0 (way_of (mount_of h m) b.0 there way) in
          subst (λ (ys : List Item). FitsBehind (length (tape_items h (tape_of_mount h m))) ys) (sym b.2 ∙ same) (subst (λ (v : ℕ). FitsBehind (length (tape_items h v)) (batch_of site h (moment_of h t) b.0)) (sym tape) fits))
      | inr miss ↦ λ e. older items (rw miss at e)
    ]
claim_fits site h t m _ a o items is way older = λ e. older items e

pub grows : (site : Site) (h : History) (t : ℕ) (k : Ask) (a : Answer) (v w : ℕ) → a ≡ answer_of site h t k → is_accepted a ≡ true → is_mounted h v ≡ true → length (tape_items h v) ≤ length (items_after k v w (tape_items h v))
grows site h t (ask.Flushed m items) a v w is y up = elim (w == v) as (λ b. length (tape_items h v) ≤ length (if b then tape_items h v ++ items.items else tape_items h v)) [ true ↦ omega (arith, length-append (tape_items h v) items.items) | false ↦ omega arith ]
grows site h t (ask.Reclaim who u) a v w is y up =
    elim (bool_cases (u == v)) [
      | inl hit ↦
          (let none : (is_empty (live_items_on h u) ≡ true) × (is_mounted h u ≡ false) = reclaim_none (is_too_heavy site h (ask.Reclaim who u) (reclaim_answer site h u)) (nat_le (length site.tapes.items) u) (is_mounted h u) (is_broken (tape_state site h u)) (is_empty (live_items_on h u)) a is y in
          let same : u ≡ v = eqb-true u v hit in
          let here : is_mounted h v ≡ false = subst (λ (x : ℕ). is_mounted h x ≡ false) same none.1 in
          absurd (cc))
      | inr miss ↦ rw miss (omega arith)
    ]
grows site h t _ a v w is y up = omega arith

-- a mount that goes some way is there
pub mount_there : (way : Direction) (o : Option Mount) → IsMountOf way o → (x : Mount) × (o ≡ Some x)
mount_there way None is = absurd is
mount_there way (Some x) is = (x, refl)

pub open_mounted : (h : History) (m : ℕ) (x : Mount) → mount_of h m ≡ Some x → is_open h m ≡ true → is_mounted h (tape_of_mount h m) ≡ true
open_mounted h m x is op = subst (λ (v : ℕ). is_mounted h v ≡ true) (sym (ap tape_by is)) (mounted_any h m x (open_mounts h) is op)

pub claims_fit : (site : Site) (h : History) → IsLegal site h → (m : ℕ) (items : List Item) → is_open h m ≡ true → IsMountOf direction.Archive (mount_of h m) → last_batch h m ≡ Some items → FitsBehind (length (tape_items h (tape_of_mount h m))) items
claims_fit site [] legal m items op way is = absurd (cc)
claims_fit site (e ∷ h) legal m items op way is =
    let low : m ≤ length h = claim_older site h e.at m e.ask e.answer (last_batch h m) items legal.1.answered (λ q. last_older site h legal.0 m items q) is in
    let older : mount_of (e ∷ h) m ≡ mount_of h m = mount_older e h m low in
    let op' : is_open h m ≡ true = was_open e.ask e.answer (length h + 1) m (open_mounts h) (not_next m (length h) low) op in
    let way' : IsMountOf direction.Archive (mount_of h m) = subst (λ (p : Option Mount). IsMountOf direction.Archive p) older way in
    let base : FitsBehind (length (tape_items h (tape_of_mount h m))) items = claim_fits site h e.at m e.ask e.answer (last_batch h m) items legal.1.answered way' (λ xs q. claims_fit site h legal.0 m xs op' way' q) is in
    let x : (x : Mount) × (mount_of h m ≡ Some x) = mount_there direction.Archive (mount_of h m) way' in
    let more : FitsBehind (length (tape_items (e ∷ h) (tape_of_mount h m))) items = fits_more _ _ items (grows site h e.at e.ask e.answer (tape_of_mount h m) (tape_of_mount h (asked_mount e.ask)) legal.1.answered legal.1.accepted (open_mounted h m x.0 x.1 op')) base in
    subst (λ (v : ℕ). FitsBehind (length (tape_items (e ∷ h) v)) items) (sym (ap tape_by older)) more

-- ---- the items on a tape are numbered up to their number

pub same_fits : (n : ℕ) (xs ys : List Item) → same_items xs ys ≡ true → AllOf (λ (i : Item). i.fseq ≤ n) ys → AllOf (λ (i : Item). i.fseq ≤ n) xs
same_fits n [] [] e a = tt
same_fits n [] (y ∷ ys) e a = absurd (cc)
same_fits n (x ∷ xs) [] e a = absurd (cc)
same_fits n (x ∷ xs) (y ∷ ys) e a =
    let parts : (same_item x y ≡ true) × (same_items xs ys ≡ true) = and_parts _ _ e in
    let fseqs : x.fseq ≡ y.fseq = eqb-true _ _ (and_parts _ _ (and_parts (same_job x.job y.job) _ parts.0).1).0 in
    (subst (λ (k : ℕ). k ≤ n) (sym fseqs) a.0, same_fits n xs ys parts.1 a.1)

pub same_length : (xs ys : List Item) → same_items xs ys ≡ true → length xs ≡ length ys
same_length [] [] e = refl
same_length [] (y ∷ ys) e = absurd (cc)
same_length (x ∷ xs) [] e = absurd (cc)
same_length (x ∷ xs) (y ∷ ys) e = ap suc (same_length xs ys (and_parts (same_item x y) _ e).1)

pub last_fits : (n : ℕ) (items : List Item) (o : Option (List Item)) → is_last_batch o items ≡ true → ((xs : List Item) → o ≡ Some xs → FitsBehind n xs) → FitsBehind n items
unfolding FitsBehind
last_fits n items None e h = absurd (cc)
last_fits n items (Some xs) e h =
    let len : length items ≡ length xs = same_length items xs e in
    rw len (same_fits (n + length xs) items xs e (h xs refl))

pub IsNumbered : List Item → Type 0
IsNumbered items = AllOf (λ (i : Item). i.fseq ≤ length items) items

pub numbered_append : (xs ys : List Item) → IsNumbered xs → FitsBehind (length xs) ys → IsNumbered (xs ++ ys)
unfolding IsNumbered FitsBehind
numbered_append xs ys a b =
    all_append (λ (i : Item). i.fseq ≤ length (xs ++ ys)) xs ys
    (all_mono (λ (i : Item). i.fseq ≤ length xs) (λ (i : Item). i.fseq ≤ length (xs ++ ys)) xs (λ i q. omega (arith, length-append xs ys)) a)
    (all_mono (λ (i : Item). i.fseq ≤ length xs + length ys) (λ (i : Item). i.fseq ≤ length (xs ++ ys)) ys (λ i q. omega (arith, length-append xs ys)) b)

pub tape_step : (site : Site) (h : History) → IsLegal site h → (t : ℕ) (k : Ask) (a : Answer) (v : ℕ) → a ≡ answer_of site h t k → is_accepted a ≡ true → IsFit site h k → IsNumbered (tape_items h v) → IsNumbered (items_after k v (tape_of_mount h (asked_mount k)) (tape_items h v))
unfolding IsNumbered
tape_step site h legal t (ask.Flushed m items) a v is y fit all =
    elim (bool_cases (tape_of_mount h m == v)) [
      | inl hit ↦
          (let known : (is_known h m (item_jobs items.items) ≡ true) × (is_last_batch (last_batch h m) items.items ≡ true) = flushed_known site h t m items a is y in
          let op : is_open h m ≡ true = (and_parts (is_open h m) _ known.0).0 in
          let tape : tape_of_mount h m ≡ v = eqb-true _ _ hit in
          let fits : FitsBehind (length (tape_items h (tape_of_mount h m))) items.items = last_fits _ items.items (last_batch h m) known.1 (λ xs q. claims_fit site h legal m xs op fit q) in
          rw hit (numbered_append (tape_items h v) items.items all (subst (λ (u : ℕ). FitsBehind (length (tape_items h u)) items.items) tape fits)))
      | inr miss ↦ rw miss all
    ]
tape_step site h legal t (ask.Reclaim who u) a v is y fit all = elim (u == v) as (λ b. IsNumbered (if b then [] else tape_items h v)) [ true ↦ tt | false ↦ all ]
tape_step site h legal t _ a v is y fit all = all

pub tape_numbered : (site : Site) (h : History) → IsLegal site h → (v : ℕ) → IsNumbered (tape_items h v)
unfolding IsNumbered
tape_numbered site [] legal v = tt
tape_numbered site (e ∷ h) legal v = tape_step site h legal.0 e.at e.ask e.answer v legal.1.answered legal.1.accepted legal.1.fit (tape_numbered site h legal.0 v)

pub item_low : (f c s n : ℕ) (items : List Item) → AllOf (λ (i : Item). i.fseq ≤ n) items → list_any (is_item_of f c s) items ≡ true → s ≤ n
item_low f c s n [] a e = absurd (cc)
item_low f c s n (i ∷ items) a e =
    elim (bool_cases (is_item_of f c s i)) [
      | inl hit ↦ (let same : i.fseq ≡ s = eqb-true _ _ (and_parts (i.job.copy == c) _ (and_parts (i.job.file == f) _ hit).1).1 in subst (λ (k : ℕ). k ≤ n) same a.0)
      | inr miss ↦ item_low f c s n items a.1 (rw miss at e)
    ]

pub places_below : PlacesBelow
unfolding IsNumbered
places_below site h legal f c p e =
    let least : p.fseq ≤ length (tape_items h p.tape) = item_low f c p.fseq (length (tape_items h p.tape)) (tape_items h p.tape) (tape_numbered site h legal p.tape) (places_on_tape site h legal f c p e) in
    omega arith
