-- What holds where a Failed is accepted in a legal history.
use Rattle.std.proofs.Common.{◌≡◌, ◌∙◌, ◌+◌, ◌*◌, ◌^◌, ◌<◌, ◌≤◌, ◌⊎◌, ℕ, zero, suc, inl, inr, List, [], ◌∷◌, ◌++◌, length, Bool, true, false, ◌||◌, not, refl, sym, ap, subst, arith}
use Rattle.std.specs.Prelude.{Option, Some, option_map, is_none, if◌then◌else◌, ◌==◌, ◌&&◌, map}
use Rattle.std.specs.List.{AllByRecursion}
use Rattle.std.proofs.lemmas.Bool.{and_parts}
use Rattle.std.proofs.lemmas.List.{length-append}
use Rattle.std.proofs.lemmas.List.Sums.{sum_by-cons}
use Rattle.cta_site.specs.declared.site.Site.{Site}
use Rattle.cta_site.specs.Listed.{rows}
use Rattle.cta_site.specs.WellFormed.{IsWellFormed}
use Rattle.cta_model.specs.declared.asks.Ask.{Ask}
use Rattle.cta_model.specs.declared.asks.Ask.TheVariants as ask
use Rattle.cta_model.specs.declared.asks.Direction.{Direction}
use Rattle.cta_model.specs.declared.asks.Fault.{Fault}
use Rattle.cta_model.specs.declared.asks.Job.{Job}
use Rattle.cta_model.specs.declared.answers.Answer.{Answer}
use Rattle.cta_model.specs.declared.answers.Answer.TheVariants as answer
use Rattle.cta_model.specs.declared.asks.Item.{Item}
use Rattle.cta_model.specs.declared.entries.Entry.{Entry}
use Rattle.cta_model.specs.declared.states.Mount.{Mount}
use Rattle.cta_model.specs.Files.{size_of}
use Rattle.cta_model.specs.History.{History, is_number}
use Rattle.cta_model.specs.Jobs.{is_live_job, live_birth}
use Rattle.cta_model.specs.Mounts.{claimed_after, claimed_items, claimer_of, claims, has_job, is_open, item_jobs, mount_of, same_job, without_jobs}
use Rattle.cta_model.specs.Queues.{direction_of, is_queued, queue_of}
use Rattle.cta_model.specs.Recalls.{Recall}
use Rattle.cta_model.specs.Answers.{answer_of, is_accepted, is_known, names_twice}
use Rattle.cta_model.specs.Legal.{greatest_moment, IsFit, IsLegal, IsNext, new_entry}
use Rattle.cta_model.proofs.Appends.{is_next}
use Rattle.cta_laws.specs.Claims.{size_of_jobs}
use Rattle.cta_laws.proofs.Accepted.{answer_is}
use Rattle.cta_laws.proofs.Claimers.{claimer_is, ends_known}
use Rattle.cta_laws.proofs.JobLaw.{queued_stands}
use Rattle.cta_laws.proofs.JobLists.{filter_le, without_many}
use Rattle.cta_laws.proofs.BatchLaw.{claims_are_short}
use Rattle.cta_laws.proofs.LengthLaw.{stays_short}
use Rattle.cta_laws.proofs.Loads.{known_parts}
use Rattle.cta_laws.proofs.RangeLaw.{InRange, job_range}
use Rattle.cta_laws.proofs.Tests.{bool_cases, or_left, or_right}
use Rattle.cta_laws.proofs.Ways.{claims_way}
use Rattle.job_book.specs.Live.{lives}
use Rattle.job_queues.specs.Waiting.{jobs_of}
use Rattle.part_model.specs.declared.mounts.OpenMount.{OpenMount}
use Rattle.part_model.specs.JobRows.{JobRows, book_in}
use Rattle.part_model.specs.Mounts.{has_mount, row_of}
use Rattle.part_model.specs.Queues.{Lines}
use Rattle.part_laws.specs.QueueBooks.{IsBook}
use Rattle.part_laws.specs.Lines.{AreLines, line_of}
use Rattle.part_laws.proofs.Births.{has_both}
use Rattle.part_laws.proofs.FailSteps.{failed_live, has_pair, known_once}
use Rattle.part_laws.specs.Laws.{AreSmall, FilesFitBuffer}
use Rattle.part_laws.specs.Mounts.{AreOpenMounts}
use Rattle.part_laws.proofs.RowAnswers.{rows_tell_mounts}
use Rattle.fault_asks.specs.Failing.{CanQueue, IsBack}
use Rattle.fault_asks.proofs.Claimed.{IsClaimable, claimable, failed_known}
use Rattle.fault_asks.proofs.BackLists.{parts_none}
use Rattle.part_moves.proofs.Charged.{lives_is}

-- the ask
abbrev pub failed : ℕ → Fault → List Job → List Job → Ask
failed m fault charged returned = ask.Failed m fault (rows charged) (rows returned)

-- the entry
abbrev pub failed_entry : History → ℕ → ℕ → Fault → List Job → List Job → Entry
failed_entry h t m fault charged returned = new_entry h t (failed m fault charged returned) answer.Done

-- a Failed that is accepted in a legal history
pub record IsFailure (site : Site) (h : History) (t m : ℕ) (fault : Fault) (charged returned : List Job) : Type 0 where
  pub legal : IsLegal site h
  pub within : t ≤ greatest_moment
  pub fit : IsFit site h (failed m fault charged returned)
  pub accepted : is_accepted (answer_of site h t (failed m fault charged returned)) ≡ true

module _ (site : Site) (h : History) (t m : ℕ) (fault : Fault) (charged returned : List Job) (f : IsFailure site h t m fault charged returned) where
  -- ---- the entry

  pub done_is : answer.Done ≡ answer_of site h t (failed m fault charged returned)
  done_is = sym (answer_is site h t (failed m fault charged returned) (answer_of site h t (failed m fault charged returned)) refl f.accepted)

  pub entry_next : IsNext site h (failed_entry h t m fault charged returned)
  entry_next = is_next site h t (failed m fault charged returned) answer.Done f.legal f.within f.fit done_is refl

  pub longer : IsLegal site (failed_entry h t m fault charged returned ∷ h)
  longer = (f.legal, entry_next)

  -- ---- the jobs

  pub known : is_known h m (charged ++ returned) ≡ true
  known = failed_known site h t m fault (rows charged) (rows returned) (answer_of site h t (failed m fault charged returned)) refl f.accepted

  pub opened : is_open h m ≡ true
  opened = (known_parts h m (charged ++ returned) known).0

  pub once_all : names_twice (charged ++ returned) ≡ false
  once_all = known_once h m (charged ++ returned) known

  pub named_claimed : (j : Job) → has_job j (charged ++ returned) ≡ true → claims h m j ≡ true
  named_claimed j there = (ends_known site h m (charged ++ returned) known).1 j there

  pub claimer : (j : Job) → has_job j (charged ++ returned) ≡ true → claimer_of h j ≡ Some m
  claimer j there = claimer_is site h f.legal j m opened (named_claimed j there)

  pub named_claimable : 1 ≤ site.limits.tries → (j : Job) → has_job j (charged ++ returned) ≡ true → IsClaimable site h j
  named_claimable some j there = claimable site h some f.legal j m (claimer j there)

  pub named_way : (x : Mount) → mount_of h m ≡ Some x → (j : Job) → has_job j (charged ++ returned) ≡ true → direction_of j ≡ x.direction
  named_way x is j there = claims_way site h f.legal m x j is (named_claimed j there)

-- ---- lists

pub behind : (j : Job) (xs ys : List Job) → has_job j ys ≡ true → has_job j (xs ++ ys) ≡ true
behind j xs ys on = has_both j xs ys ∙ or_right (has_job j xs) (has_job j ys) on

pub first_once : (xs ys : List Job) → names_twice (xs ++ ys) ≡ false → names_twice xs ≡ false
first_once [] ys e = refl
first_once (x ∷ xs) ys e = (let p = parts_none (has_job x (xs ++ ys)) (names_twice (xs ++ ys)) e in rw (has_pair x xs ys p.0, first_once xs ys p.1) refl)

pub last_once : (xs ys : List Job) → names_twice (xs ++ ys) ≡ false → names_twice ys ≡ false
last_once [] ys e = e
last_once (x ∷ xs) ys e = last_once xs ys (parts_none (has_job x (xs ++ ys)) (names_twice (xs ++ ys)) e).1

swap_same : (j x : Job) → same_job j x ≡ true → same_job x j ≡ true
swap_same j x e = grind (arith, e)

-- a job of the one list is not in the other
pub apart : (xs ys : List Job) → names_twice (xs ++ ys) ≡ false → (j : Job) → has_job j xs ≡ true → has_job j ys ≡ false
apart [] ys e j there = absurd (cc)
apart (x ∷ xs) ys e j there = by (same_job j x) refl (λ more. apart xs ys (parts_none (has_job x (xs ++ ys)) (names_twice (xs ++ ys)) e).1 j more) (bool_cases (has_job j ys)) there
  where
    same_has : (zs : List Job) → same_job j x ≡ true → has_job j zs ≡ has_job x zs
    same_has [] y = refl
    same_has (z ∷ zs) y = (let one : same_job j z ≡ same_job x z = grind (arith, y) in rw (one, same_has zs y) refl)

    by : (b : Bool) → same_job j x ≡ b → (has_job j xs ≡ true → has_job j ys ≡ false) → (has_job j ys ≡ true) ⊎ (has_job j ys ≡ false) → (b || has_job j xs) ≡ true → has_job j ys ≡ false
    by true y rest (inr none) e2 = none
    by true y rest (inl on) e2 =
        (let bad : has_job x (xs ++ ys) ≡ true = behind x xs ys (sym (same_has ys y) ∙ on) in
        let no : has_job x (xs ++ ys) ≡ false = (parts_none (has_job x (xs ++ ys)) (names_twice (xs ++ ys)) e).0 in
        absurd (cc))
    by false y rest d e2 = rest e2

pub all_from : (P : Job → Type 0) (xs : List Job) → ((j : Job) → has_job j xs ≡ true → P j) → AllByRecursion P xs
all_from P [] each = tt
all_from P (x ∷ xs) each = (each x (or_left (same_job x x) (has_job x xs) (grind arith)), all_from P xs (λ j there. each j (or_right (same_job j x) (has_job j xs) there)))

-- ---- how many

if_less : (b : Bool) (js : List Job) (xs : List Item) (n : ℕ) → length xs ≤ n → length (if b then without_jobs js xs else xs) ≤ n
if_less true js xs n low = (let less : length (without_jobs js xs) ≤ length xs = filter_le (λ (i : Item). not (has_job i.job js)) xs in omega (arith, low, less))
if_less false js xs n low = low

-- a mount claims at most as many items as its entries may have given it
claims_few : (site : Site) (h : History) → IsWellFormed site → IsLegal site h → (m : ℕ) → length (claimed_items h m) ≤ 1000 * length h
claims_few site [] good legal m = omega arith
claims_few site (e ∷ h) good legal m = by e.ask e.answer refl refl (claims_few site h good legal.0 m)
  where
    grown : (n : ℕ) → length (claimed_items h m) ≤ 1000 * length h → n ≤ length (claimed_items h m) + 1000 → n ≤ 1000 * length (e ∷ h)
    grown n before more = omega (arith, before, more)

    by : (k : Ask) (a : Answer) → e.ask ≡ k → e.answer ≡ a → length (claimed_items h m) ≤ 1000 * length h → length (claimed_after k a m (claimed_items h m)) ≤ 1000 * length (e ∷ h)
    by (ask.Claim n) (answer.Batch items evicted) ek ea before =
        (let short : length items.items ≤ site.limits.batch_files = claims_are_short site h e legal n items evicted ek ea in
        let top : site.limits.batch_files ≤ 1000 = good.limits.batch_files_to in
        let count : length (claimed_items h m ++ items.items) ≡ length (claimed_items h m) + length items.items = length-append (claimed_items h m) items.items in
        elim (n == m) as (λ b. length (if b then claimed_items h m ++ items.items else claimed_items h m) ≤ 1000 * length (e ∷ h))
        [ true ↦ grown _ before (omega (arith, count, short, top)) | false ↦ grown _ before (omega arith) ])
    by (ask.Flushed n items) a ek ea before = if_less (n == m) (item_jobs items.items) (claimed_items h m) (1000 * length (e ∷ h)) (grown _ before (omega arith))
    by (ask.Recalled n job) a ek ea before = if_less (n == m) (job ∷ []) (claimed_items h m) (1000 * length (e ∷ h)) (grown _ before (omega arith))
    by (ask.Failed n fault charged returned) a ek ea before = if_less (n == m) (charged.items ++ returned.items) (claimed_items h m) (1000 * length (e ∷ h)) (grown _ before (omega arith))
    by _ a ek ea before = grown _ before (omega arith)

pub few_jobs : (site : Site) (h : History) (t m : ℕ) (fault : Fault) (charged returned : List Job) → IsWellFormed site → IsFailure site h t m fault charged returned → length charged + length returned ≤ 2000000000
few_jobs site h t m fault charged returned good f =
    let parts = known_parts h m (charged ++ returned) (known site h t m fault charged returned f) in
    let less : length (without_jobs (charged ++ returned) (claimed_items h m)) + length (charged ++ returned) ≤ length (claimed_items h m) = without_many (charged ++ returned) (claimed_items h m) parts.1.1 parts.1.0 in
    let both : length (charged ++ returned) ≡ length charged + length returned = length-append charged returned in
    let claimed : length (claimed_items h m) ≤ 1000 * length h = claims_few site h good f.legal m in
    let short : length h ≤ 2 * site.limits.history = stays_short site h f.legal in
    let top : site.limits.history ≤ 1000000 = good.limits.history_to in
    omega (arith, less, both, claimed, short, top)

-- the history has room for another entry
pub entries_fit : (site : Site) (h : History) → IsWellFormed site → IsLegal site h → length h + 2 < 2 ^ 32
entries_fit site h good legal =
    let short : length h ≤ 2 * site.limits.history = stays_short site h legal in
    let limit : site.limits.history ≤ 1000000 = good.limits.history_to in
    omega (arith, short, limit)

-- ---- bytes

pub small_files : FilesFitBuffer → (site : Site) (h : History) → IsWellFormed site → IsLegal site h → (f : ℕ) → size_of h f ≤ 2147483648
small_files law site h good legal f = (let fits : size_of h f ≤ site.limits.buffer = law site h legal f in let top : site.limits.buffer ≤ 2147483648 = good.limits.buffer_to in omega (arith, fits, top))

pub sizes_low : (h : History) (jobs : List Job) → ((f : ℕ) → size_of h f ≤ 2147483648) → size_of_jobs h jobs ≤ 2147483648 * length jobs
sizes_low h [] small = omega arith
sizes_low h (j ∷ js) small =
    let sum : size_of_jobs h (j ∷ js) ≡ size_of h j.file + size_of_jobs h js = sum_by-cons (λ (j : Job). size_of h j.file) j js in
    let rest = sizes_low h js small in
    let one = small j.file in
    omega (arith, sum, rest, one)

pub sizes_both : (h : History) (xs ys : List Job) → size_of_jobs h (xs ++ ys) ≡ size_of_jobs h xs + size_of_jobs h ys
sizes_both h [] ys = omega arith
sizes_both h (x ∷ xs) ys =
    let a : size_of_jobs h (x ∷ (xs ++ ys)) ≡ size_of h x.file + size_of_jobs h (xs ++ ys) = sum_by-cons (λ (j : Job). size_of h j.file) x (xs ++ ys) in
    let b : size_of_jobs h (x ∷ xs) ≡ size_of h x.file + size_of_jobs h xs = sum_by-cons (λ (j : Job). size_of h j.file) x xs in
    let rest = sizes_both h xs ys in
    omega (arith, a, b, rest)

-- ---- live jobs

and_first : (a b : Bool) → (a && b) ≡ true → a ≡ true
and_first true b e = refl
and_first false b e = absurd (cc)

-- ---- queues

pub jobs_map : (site : Site) (h : History) (way : Direction) (q : List Job) → jobs_of (map (line_of site h way) q) ≡ q
jobs_map site h way [] = refl
jobs_map site h way (j ∷ q) = ap (λ (js : List Job). j ∷ js) (jobs_map site h way q)

-- a job that is claimed waits in no queue
pub claimed_waits_not : (site : Site) (h : History) (way : Direction) (lines : Lines) (j : Job) (m : ℕ) → AreLines site h way lines → claimer_of h j ≡ Some m → (k : ℕ) → has_job j (jobs_of (lines k)) ≡ false
claimed_waits_not site h way lines j m are claimed k =
    ap (λ ls. has_job j (jobs_of ls)) (are k) ∙ ap (has_job j) (jobs_map site h way (queue_of site h way k)) ∙ by (bool_cases (has_job j (queue_of site h way k)))
  where
    by : (has_job j (queue_of site h way k) ≡ true) ⊎ (has_job j (queue_of site h way k) ≡ false) → has_job j (queue_of site h way k) ≡ false
    by (inr none) = none
    by (inl there) =
        (let queued : is_queued site h way k j ≡ true = queued_stands site h way k j there in
        let free : is_none (claimer_of h j) ≡ true = (and_parts (is_none (claimer_of h j)) _ (and_parts _ _ (and_parts (is_live_job site h j) _ queued).1).1).0 in
        let taken : is_none (claimer_of h j) ≡ false = ap is_none claimed in
        absurd (cc))

-- jobs of which each live one may go back can be queued
pub can_queue : (site : Site) (h : History) (b : JobRows) (lines : Lines) (js : List Job) → names_twice js ≡ false → ((j : Job) → has_job j js ≡ true → lives j (book_in b) ≡ true → IsBack site h lines j) → CanQueue site h (book_in b) lines js
can_queue site h b lines [] once each = tt
can_queue site h b lines (j ∷ js) once each =
    let p = parts_none (has_job j js) (names_twice js) once in
    (λ live. each j (or_left (same_job j j) (has_job j js) (grind arith)) live, p.0, can_queue site h b lines js p.1 (λ i there live. each i (or_right (same_job i j) (has_job i js) there) live))

pub back_is : (site : Site) (h : History) (t m : ℕ) (fault : Fault) (charged returned : List Job) (lines : Lines) (b : JobRows) (j : Job) → 1 ≤ site.limits.tries → IsFailure site h t m fault charged returned
    → IsBook site (failed_entry h t m fault charged returned ∷ h) (book_in b) → has_job j (charged ++ returned) ≡ true → lives j (book_in b) ≡ true → ((k : ℕ) → has_job j (jobs_of (lines k)) ≡ false) → IsBack site h lines j
back_is site h t m fault charged returned lines b j some f book there live lacks =
    let e : Entry = failed_entry h t m fault charged returned in
    let after : is_live_job site (failed_entry h t m fault charged returned ∷ h) j ≡ true = sym (lives_is site (failed_entry h t m fault charged returned ∷ h) b j book) ∙ live in
    let was : is_live_job site h j ≡ true = and_first _ _ (sym (failed_live site h (failed_entry h t m fault charged returned) m fault (rows charged) (rows returned) j refl) ∙ after) in
    let range : InRange site h j = job_range site h f.legal j was in
    record { put = (named_claimable site h t m fault charged returned f some j there).put; to = range.2; lacks = lacks }

-- ---- room in queues

pub room_in : (site : Site) (bytes n all : ℕ) → AreSmall site bytes → n ≤ all → all ≤ 2000000000 → bytes + 2147483648 * n < 2 ^ 64
room_in site bytes n all small less few = (let low : bytes ≤ 36028797018963968 = small.low in omega (arith, low, less, few))

pub room_left : (site : Site) (bytes now n k : ℕ) → AreSmall site bytes → now ≤ bytes + 2147483648 * k → n + k ≤ 2000000000 → now + 2147483648 * n < 2 ^ 64
room_left site bytes now n k small more few = (let low : bytes ≤ 36028797018963968 = small.low in omega (arith, low, more, few))
