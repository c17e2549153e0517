-- Recalls of files that a request waits for, one by one.
use Rattle.std.proofs.Common.{◌≡◌, ◌∙◌, ◌+◌, ◌-◌, ◌*◌, ◌≤◌, ◌<◌, ◌^◌, ℕ, zero, suc, inl, inr, List, [], ◌∷◌, ◌++◌, Bool, true, false, ◌||◌, refl, sym, ap, subst, arith, length, take, drop, add-one}
use Rattle.std.specs.Prelude.{Option, Some, None, option_map, ◌==◌, if◌then◌else◌, get_or, slice_index_or}
use Rattle.std.specs.List.{AllByRecursion}
use Rattle.std.proofs.lemmas.Bool.{eqb-true, eq-eqb}
use Rattle.std.proofs.lemmas.List.{take_more, drop_more}
use Rattle.std.proofs.lemmas.List.Sums.{sum_by-cons}
use Rattle.cta_site.specs.declared.site.Site.{Site}
use Rattle.cta_model.specs.declared.asks.Direction.TheVariants as direction
use Rattle.cta_model.specs.declared.asks.Job.{Job}
use Rattle.cta_model.specs.Files.{size_of}
use Rattle.cta_model.specs.History.{History, has_number}
use Rattle.cta_model.specs.Mounts.{has_job, same_job}
use Rattle.cta_model.specs.Recalls.{Recall, recall_job, subscribed}
use Rattle.cta_laws.proofs.Tests.{bool_cases, or_left, or_right}
use Rattle.part_model.specs.declared.jobs.Line.{Line}
use Rattle.part_model.specs.JobBook.{Book, TellSame, bear_jobs, subscribe_files}
use Rattle.part_model.specs.Order.{goes_before}
use Rattle.part_model.specs.Queues.{Lines, add_at, insert_line}
use Rattle.part_model.specs.Tapes.{Table}
use Rattle.part_laws.specs.Lines.{line_of}
use Rattle.job_queues.specs.Waiting.{bytes_of, jobs_of}
use Rattle.part_laws.specs.Births.{recalls_of}
use Rattle.part_laws.proofs.BookSteps.{bear_same, tell_chain}
use Rattle.part_laws.proofs.Loops.{bear_more}
use Rattle.caller_asks.specs.Wanted.{AreOnce, add_recalls, source_in}
use Rattle.part_moves.proofs.AddedLines.{add_same, bytes_added, lacks_added}
use Rattle.part_moves.proofs.NewJobs.{before_it, born_none, room_for_one}

-- ---- numbers that are listed once

among : (fs : List ℕ) (i d : ℕ) → i < length fs → has_number (get_or fs i d) fs ≡ true
among [] i d low = absurd (omega arith)
among (f ∷ fs) zero d low = or_left (f == f) _ (eq-eqb f f refl)
among (f ∷ fs) (suc i) d low = or_right (get_or fs i d == f) _ (among fs i d (omega arith))

other : (f y : ℕ) (fs : List ℕ) → has_number f fs ≡ false → has_number y fs ≡ true → (y == f) ≡ false
other f y fs none there = elim (bool_cases (y == f)) [ inl hit ↦ (let bad : has_number f fs ≡ true = subst (λ (n : ℕ). has_number n fs ≡ true) (eqb-true y f hit) there in absurd (cc)) | inr miss ↦ miss ]

once_before : (fs : List ℕ) (i d : ℕ) → AreOnce fs → i < length fs → has_number (get_or fs i d) (take i fs) ≡ false
once_before [] i d once low = absurd (omega arith)
once_before (f ∷ fs) zero d once low = refl
once_before (f ∷ fs) (suc i) d once low =
    let less : i < length fs = omega arith in
    rw (other f (get_or fs i d) fs once.0 (among fs i d less)) (once_before fs i d once.1 less)

once_behind : (fs : List ℕ) (i d : ℕ) → AreOnce fs → i < length fs → has_number (get_or fs i d) (drop (suc i) fs) ≡ false
once_behind [] i d once low = absurd (omega arith)
once_behind (f ∷ fs) zero d once low = once.0
once_behind (f ∷ fs) (suc i) d once low = once_behind fs i d once.1 (omega arith)

pub or_off : (b : Bool) → b ≡ (b || false)
or_off true = refl
or_off false = refl

pub number_both : (n : ℕ) (xs : List ℕ) (x : ℕ) → has_number n (xs ++ x ∷ []) ≡ (has_number n xs || (n == x))
number_both n [] x = sym (or_off (n == x))
number_both n (y ∷ xs) x = ap (λ (b : Bool). (n == y) || b) (number_both n xs x) ∙ by (n == y)
  where
    by : (a : Bool) → (a || (has_number n xs || (n == x))) ≡ ((a || has_number n xs) || (n == x))
    by true = refl
    by false = refl

-- ---- subscriptions

pub joined_none : (id : ℕ) (b : Book) → TellSame b (subscribe_files [] id b)
joined_none id b = record { recall = λ f. refl; archive = λ f c. refl; claimer = λ j. refl; charges = λ j. refl; last_birth = λ f c. refl; named = λ j. refl }

-- the request waits for one recall more
pub joined_more : (id i d : ℕ) (fs : List ℕ) (first before after : Book) → i < length fs → AreOnce fs → TellSame before (subscribe_files (take i fs) id first) → TellSame after (subscribe_files (get_or fs i d ∷ []) id before)
    → TellSame after (subscribe_files (take (i + 1) fs) id first)
joined_more id i d fs first before after low once was now = record {
  recall = λ f.
      now.recall f
      ∙ ap (λ (o : Option Recall). if (f == get_or fs i d) || false then option_map (subscribed true id) o else o) (was.recall f)
      ∙ by f (f == get_or fs i d) (has_number f (take i fs)) (λ hit. ap (λ (n : ℕ). has_number n (take i fs)) (eqb-true f (get_or fs i d) hit) ∙ once_before fs i d once low)
      ∙ ap (λ (b : Bool). if b then option_map (subscribed true id) (first.recall f) else first.recall f) (sym (ap (has_number f) (take_more fs i d low) ∙ number_both f (take i fs) (get_or fs i d)));
  archive = λ f c. now.archive f c ∙ was.archive f c;
  claimer = λ j. now.claimer j ∙ was.claimer j;
  charges = λ j. now.charges j ∙ was.charges j;
  last_birth = λ f c. now.last_birth f c ∙ was.last_birth f c;
  named = λ j. now.named j ∙ was.named j;
}
  where
    by : (f : ℕ) (a b : Bool) → (a ≡ true → b ≡ false)
        → (if a || false then option_map (subscribed true id) (if b then option_map (subscribed true id) (first.recall f) else first.recall f) else (if b then option_map (subscribed true id) (first.recall f) else first.recall f))
        ≡ (if b || a then option_map (subscribed true id) (first.recall f) else first.recall f)
    by f true true e = (let bad : true ≡ false = e refl in absurd (cc))
    by f true false e = refl
    by f false true e = refl
    by f false false e = refl

-- ---- births

recalls_last : (n : ℕ) (fs : List ℕ) (f : ℕ) → recalls_of n (fs ++ f ∷ []) ≡ recalls_of n fs ++ recall_job n f ∷ []
recalls_last n [] f = refl
recalls_last n (g ∷ fs) f = ap (λ (js : List Job). recall_job n g ∷ js) (recalls_last n fs f)

-- one recall more is born
pub born_more : (n i d : ℕ) (fs : List ℕ) (first before after : Book) → i < length fs → TellSame before (bear_jobs (recalls_of n (take i fs)) n first) → TellSame after (bear_jobs (recall_job n (get_or fs i d) ∷ []) n before)
    → TellSame after (bear_jobs (recalls_of n (take (i + 1) fs)) n first)
born_more n i d fs first before after low was now =
    subst (λ (js : List Job). TellSame after (bear_jobs js n first)) (sym (ap (recalls_of n) (take_more fs i d low) ∙ recalls_last n (take i fs) (get_or fs i d)))
    (tell_chain _ _ _ now
    (tell_chain _ _ _ (bear_same (recall_job n (get_or fs i d) ∷ []) n before (bear_jobs (recalls_of n (take i fs)) n first) was) (bear_more (recalls_of n (take i fs)) (recall_job n (get_or fs i d)) n first)))

-- ---- several recalls

other_recall : (n f g : ℕ) → (f == g) ≡ false → same_job (recall_job n f) (recall_job n g) ≡ false
other_recall n f g miss = grind arith

not_first : (f g : ℕ) (gs : List ℕ) → has_number f (g ∷ gs) ≡ false → ((f == g) ≡ false) × (has_number f gs ≡ false)
not_first f g gs none = by (f == g) (has_number f gs) none
  where
    by : (a b : Bool) → (a || b) ≡ false → (a ≡ false) × (b ≡ false)
    by true b e = absurd (cc)
    by false b e = (refl, e)

-- a recall of a file that is not among them is not in a queue to which they are added
lacks_all : (site : Site) (h : History) (v : Table) (n f : ℕ) (gs : List ℕ) (lines : Lines) (k : ℕ) → has_number f gs ≡ false → has_job (recall_job n f) (jobs_of (lines k)) ≡ false
    → has_job (recall_job n f) (jobs_of (add_recalls site h v n gs lines k)) ≡ false
lacks_all site h v n f [] lines k none lacks = lacks
lacks_all site h v n f (g ∷ gs) lines k none lacks =
    let parts = not_first f g gs none in
    lacks_added (recall_job n f) (source_in v g) (line_of site h direction.Retrieve (recall_job n g)) (add_recalls site h v n gs lines) k (other_recall n f g parts.0) (lacks_all site h v n f gs lines k parts.1 lacks)

-- each adds at most its file's bytes to a queue
bytes_all : (site : Site) (h : History) (v : Table) (n : ℕ) (gs : List ℕ) (lines : Lines) (k : ℕ) → ((f : ℕ) → size_of h f ≤ 2147483648) → bytes_of (add_recalls site h v n gs lines k) ≤ bytes_of (lines k) + 2147483648 * length gs
bytes_all site h v n [] lines k small = omega arith
bytes_all site h v n (g ∷ gs) lines k small =
    let rest = bytes_all site h v n gs lines k small in
    let one = bytes_added (source_in v g) (line_of site h direction.Retrieve (recall_job n g)) (add_recalls site h v n gs lines) k in
    let size = small g in
    omega (arith, rest, one, size)

length_behind : (fs : List ℕ) (i : ℕ) → i < length fs → length (drop (suc i) fs) + 1 ≤ length fs
length_behind [] i low = absurd (omega arith)
length_behind (f ∷ fs) zero low = omega arith
length_behind (f ∷ fs) (suc i) low = (let rest = length_behind fs i (omega arith) in omega arith)

-- ---- the steps of the loop, from the last file to the first

pub next_lacks : (site : Site) (h : History) (v : Table) (n i d : ℕ) (fs : List ℕ) (old mid : Lines) (k : ℕ) → i < length fs → AreOnce fs → ((f : ℕ) → has_job (recall_job n f) (jobs_of (old k)) ≡ false)
    → mid k ≡ add_recalls site h v n (drop (i + 1) fs) old k → has_job (recall_job n (get_or fs i d)) (jobs_of (mid k)) ≡ false
next_lacks site h v n i d fs old mid k low once lacks added =
    ap (λ (ls : List Line). has_job (recall_job n (get_or fs i d)) (jobs_of ls)) added
    ∙ lacks_all site h v n (get_or fs i d) (drop (i + 1) fs) old k (rw add-one (once_behind fs i d once low)) (lacks (get_or fs i d))

pub next_fits : (site : Site) (h : History) (v : Table) (n i f : ℕ) (fs : List ℕ) (old mid : Lines) (k : ℕ) → i < length fs → ((g : ℕ) → size_of h g ≤ 2147483648) → mid k ≡ add_recalls site h v n (drop (i + 1) fs) old k
    → bytes_of (old k) + 2147483648 * length fs < 2 ^ 64 → bytes_of (mid k) + size_of h f < 2 ^ 64
next_fits site h v n i f fs old mid k low small added fits =
    let next : suc i ≡ i + 1 = omega arith in
    let less : length (drop (i + 1) fs) + 1 ≤ length fs = subst (λ (m : ℕ). length (drop m fs) + 1 ≤ length fs) next (length_behind fs i low) in
    let more : bytes_of (mid k) ≤ bytes_of (old k) + 2147483648 * length (drop (i + 1) fs) =
    subst (λ (ls : List Line). bytes_of ls ≤ bytes_of (old k) + 2147483648 * length (drop (i + 1) fs)) (sym added) (bytes_all site h v n (drop (i + 1) fs) old k small) in
    room_for_one (bytes_of (mid k)) (bytes_of (old k)) (size_of h f) (length (drop (i + 1) fs)) (length fs) (small f) more less fits

pub next_added : (site : Site) (h : History) (v : Table) (n i d : ℕ) (fs : List ℕ) (old mid now : Lines) (k : ℕ) → i < length fs → mid k ≡ add_recalls site h v n (drop (i + 1) fs) old k
    → now k ≡ add_at (source_in v (get_or fs i d)) (line_of site h direction.Retrieve (recall_job n (get_or fs i d))) mid k → now k ≡ add_recalls site h v n (drop i fs) old k
next_added site h v n i d fs old mid now k low rest first =
    first ∙ add_same (source_in v (get_or fs i d)) (line_of site h direction.Retrieve (recall_job n (get_or fs i d))) mid (add_recalls site h v n (drop (i + 1) fs) old) k rest
    ∙ ap (λ (gs : List ℕ). add_recalls site h v n gs old k) (sym (drop_more fs i d low))

pub all_at : (P : ℕ → Type 0) (fs : List ℕ) (i d : ℕ) → AllByRecursion P fs → i < length fs → P (get_or fs i d)
all_at P [] i d all low = absurd (omega arith)
all_at P (f ∷ fs) zero d all low = all.0
all_at P (f ∷ fs) (suc i) d all low = all_at P fs i d all.1 (omega arith)

past_all : (fs : List ℕ) → drop (length fs) fs ≡ []
past_all [] = refl
past_all (f ∷ fs) = past_all fs

pub none_added : (site : Site) (h : History) (v : Table) (n : ℕ) (fs : List ℕ) (old : Lines) (k : ℕ) → old k ≡ add_recalls site h v n (drop (length fs) fs) old k
none_added site h v n fs old k = ap (λ (gs : List ℕ). add_recalls site h v n gs old k) (sym (past_all fs))

-- ---- at the place before this one

pub back_lacks : (site : Site) (h : History) (v : Table) (n j : ℕ) (fs : List ℕ) (old mid : Lines) (k : ℕ) → 0 < j → j ≤ length fs → AreOnce fs → ((f : ℕ) → has_job (recall_job n f) (jobs_of (old k)) ≡ false)
    → mid k ≡ add_recalls site h v n (drop j fs) old k → has_job (recall_job n (slice_index_or fs (j - 1) 0)) (jobs_of (mid k)) ≡ false
back_lacks site h v n j fs old mid k some top once lacks added =
    next_lacks site h v n (j - 1) 0 fs old mid k (omega arith) once lacks (added ∙ ap (λ (m : ℕ). add_recalls site h v n (drop m fs) old k) (before_it j some))

pub back_fits : (site : Site) (h : History) (v : Table) (n j f : ℕ) (fs : List ℕ) (old mid : Lines) (k : ℕ) → 0 < j → j ≤ length fs → ((g : ℕ) → size_of h g ≤ 2147483648) → mid k ≡ add_recalls site h v n (drop j fs) old k
    → bytes_of (old k) + 2147483648 * length fs < 2 ^ 64 → bytes_of (mid k) + size_of h f < 2 ^ 64
back_fits site h v n j f fs old mid k some top small added fits =
    next_fits site h v n (j - 1) f fs old mid k (omega arith) small (added ∙ ap (λ (m : ℕ). add_recalls site h v n (drop m fs) old k) (before_it j some)) fits

pub back_added : (site : Site) (h : History) (v : Table) (n j : ℕ) (fs : List ℕ) (old mid now : Lines) (k : ℕ) → 0 < j → j ≤ length fs → mid k ≡ add_recalls site h v n (drop j fs) old k
    → now k ≡ add_at (source_in v (slice_index_or fs (j - 1) 0)) (line_of site h direction.Retrieve (recall_job n (slice_index_or fs (j - 1) 0))) mid k → now k ≡ add_recalls site h v n (drop (j - 1) fs) old k
back_added site h v n j fs old mid now k some top rest first =
    next_added site h v n (j - 1) 0 fs old mid now k (omega arith) (rest ∙ ap (λ (m : ℕ). add_recalls site h v n (drop m fs) old k) (before_it j some)) first
