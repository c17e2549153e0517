-- Calls for jobs, one by one.
use Rattle.std.proofs.Common.{◌≡◌, ◌∙◌, ◌+◌, ◌-◌, ◌*◌, ◌≤◌, ◌<◌, ◌^◌, ℕ, zero, suc, List, [], ◌∷◌, ◌++◌, Bool, true, false, ◌||◌, not, refl, sym, ap, subst, arith, length, take, drop}
use Rattle.std.specs.Prelude.{Option, Some, None, if◌then◌else◌, ◌==◌, get_or}
use Rattle.std.specs.List.{AllByRecursion}
use Rattle.std.proofs.lemmas.List.{drop_more, take_more}
use Rattle.std.proofs.lemmas.List.Sums.{sum_by-cons}
use Rattle.cta_site.specs.declared.site.Site.{Site}
use Rattle.cta_model.specs.declared.asks.Direction.TheVariants as direction
use Rattle.cta_model.specs.declared.asks.Job.{Job}
use Rattle.cta_model.specs.Answers.{names_twice}
use Rattle.cta_model.specs.Files.{size_of}
use Rattle.cta_model.specs.History.{History}
use Rattle.cta_model.specs.Mounts.{has_copy, has_job, same_job}
use Rattle.cta_model.specs.Queues.{key_of}
use Rattle.part_model.specs.declared.jobs.Line.{Line}
use Rattle.part_model.specs.Failed.{removed_copies}
use Rattle.part_model.specs.JobBook.{Book, TellSame, bear_jobs}
use Rattle.part_model.specs.Order.{goes_before}
use Rattle.part_model.specs.Queues.{Lines, add_at, insert_line}
use Rattle.part_laws.specs.Lines.{add_jobs, line_of}
use Rattle.part_laws.proofs.Orders.{not_either}
use Rattle.job_queues.specs.Waiting.{bytes_of, jobs_of}
use Rattle.part_laws.proofs.BookSteps.{bear_same, has_copy_both, tell_chain}
use Rattle.part_laws.proofs.Loops.{bear_more}
use Rattle.fault_asks.specs.Retrying.{CanQueue}
use Rattle.part_moves.proofs.AddedLines.{add_same, bytes_added, lacks_added}
use Rattle.part_moves.proofs.NewJobs.{before_it, born_none, room_for_one}

pub all_at : (P : Job → Type 0) (js : List Job) (i : ℕ) (d : Job) → AllByRecursion P js → i < length js → P (get_or js i d)
all_at P [] i d all low = absurd (omega arith)
all_at P (j ∷ js) zero d all low = all.0
all_at P (j ∷ js) (suc i) d all low = all_at P js i d all.1 (omega arith)

-- ---- failed copies

removed_both : (js : List Job) (k : Job) (q : List Job) → removed_copies (k ∷ []) (removed_copies js q) ≡ removed_copies (js ++ k ∷ []) q
removed_both js k [] = refl
removed_both js k (x ∷ q) =
    by (has_copy x.file x.copy js) (removed_both js k q)
    ∙ ap (λ (b : Bool). if not b then x ∷ removed_copies (js ++ k ∷ []) q else removed_copies (js ++ k ∷ []) q) (sym (has_copy_both x.file x.copy js (k ∷ [])))
  where
    by : (a : Bool) → removed_copies (k ∷ []) (removed_copies js q) ≡ removed_copies (js ++ k ∷ []) q
        → removed_copies (k ∷ []) (if not a then x ∷ removed_copies js q else removed_copies js q) ≡ (if not (a || has_copy x.file x.copy (k ∷ [])) then x ∷ removed_copies (js ++ k ∷ []) q else removed_copies (js ++ k ∷ []) q)
    by true rest = rest
    by false rest = ap (λ (ys : List Job). if not (has_copy x.file x.copy (k ∷ [])) then x ∷ ys else ys) rest

removed_none : (q : List Job) → q ≡ removed_copies [] q
removed_none [] = refl
removed_none (x ∷ q) = ap (λ (ys : List Job). x ∷ ys) (removed_none q)

-- one copy more is taken out
pub removed_more : (jobs : List Job) (i : ℕ) (d : Job) (first before after : List Job) → i < length jobs → before ≡ removed_copies (take i jobs) first → after ≡ removed_copies (get_or jobs i d ∷ []) before
    → after ≡ removed_copies (take (i + 1) jobs) first
removed_more jobs i d first before after low was now =
    now ∙ ap (removed_copies (get_or jobs i d ∷ [])) was ∙ removed_both (take i jobs) (get_or jobs i d) first ∙ ap (λ (js : List Job). removed_copies js first) (sym (take_more jobs i d low))

pub removed_first : (q : List Job) → q ≡ removed_copies [] q
removed_first = removed_none

-- ---- births

-- one job more is born
pub born_more : (n : ℕ) (jobs : List Job) (i : ℕ) (d : Job) (first before after : Book) → i < length jobs → AllByRecursion (λ (j : Job). j.birth ≡ n) jobs → TellSame before (bear_jobs (take i jobs) n first)
    → TellSame after (bear_jobs (get_or jobs i d ∷ []) (get_or jobs i d).birth before) → TellSame after (bear_jobs (take (i + 1) jobs) n first)
born_more n jobs i d first before after low births was now =
    subst (λ (js : List Job). TellSame after (bear_jobs js n first)) (sym (take_more jobs i d low))
    (tell_chain _ _ _ (subst (λ (m : ℕ). TellSame after (bear_jobs (get_or jobs i d ∷ []) m before)) (all_at (λ (j : Job). j.birth ≡ n) jobs i d births low) now)
    (tell_chain _ _ _ (bear_same (get_or jobs i d ∷ []) n before (bear_jobs (take i jobs) n first) was) (bear_more (take i jobs) (get_or jobs i d) n first)))

-- ---- several jobs

-- a job that is not among them is not in a queue to which they are added
lacks_all : (site : Site) (h : History) (j : Job) (js : List Job) (lines : Lines) (k : ℕ) → has_job j js ≡ false → has_job j (jobs_of (lines k)) ≡ false → has_job j (jobs_of (add_jobs site h direction.Archive js lines k)) ≡ false
lacks_all site h j [] lines k none lacks = lacks
lacks_all site h j (i ∷ js) lines k none lacks =
    let parts = not_either (same_job j i) (has_job j js) none in
    lacks_added j (key_of site h i) (line_of site h direction.Archive i) (add_jobs site h direction.Archive js lines) k parts.0 (lacks_all site h j js lines k parts.1 lacks)

-- each adds at most its file's bytes to a queue
bytes_all : (site : Site) (h : History) (js : List Job) (lines : Lines) (k : ℕ) → ((f : ℕ) → size_of h f ≤ 2147483648) → bytes_of (add_jobs site h direction.Archive js lines k) ≤ bytes_of (lines k) + 2147483648 * length js
bytes_all site h [] lines k small = omega arith
bytes_all site h (j ∷ js) lines k small =
    let rest = bytes_all site h js lines k small in
    let one = bytes_added (key_of site h j) (line_of site h direction.Archive j) (add_jobs site h direction.Archive js lines) k in
    let size = small j.file in
    omega (arith, rest, one, size)

length_behind : (js : List Job) (i : ℕ) → i < length js → length (drop (suc i) js) + 1 ≤ length js
length_behind [] i low = absurd (omega arith)
length_behind (j ∷ js) zero low = omega arith
length_behind (j ∷ js) (suc i) low = (let rest = length_behind js i (omega arith) in omega arith)

once_behind : (js : List Job) (i : ℕ) (d : Job) → names_twice js ≡ false → i < length js → has_job (get_or js i d) (drop (suc i) js) ≡ false
once_behind [] i d once low = absurd (omega arith)
once_behind (j ∷ js) zero d once low = (not_either (has_job j js) (names_twice js) once).0
once_behind (j ∷ js) (suc i) d once low = once_behind js i d (not_either (has_job j js) (names_twice js) once).1 (omega arith)

-- ---- the steps of the loop, from the last job to the first

pub back_lacks : (site : Site) (h : History) (j : ℕ) (d : Job) (js : List Job) (old mid : Lines) (k : ℕ) → 0 < j → j ≤ length js → names_twice js ≡ false → AllByRecursion (CanQueue site h old) js
    → mid k ≡ add_jobs site h direction.Archive (drop j js) old k → has_job (get_or js (j - 1) d) (jobs_of (mid k)) ≡ false
back_lacks site h j d js old mid k some top once can added =
    let low : j - 1 < length js = omega arith in
    let next : suc (j - 1) ≡ j = omega arith in
    ap (λ (ls : List Line). has_job (get_or js (j - 1) d) (jobs_of ls)) added
    ∙ lacks_all site h (get_or js (j - 1) d) (drop j js) old k (ap (λ (m : ℕ). has_job (get_or js (j - 1) d) (drop m js)) (sym next) ∙ once_behind js (j - 1) d once low) ((all_at (CanQueue site h old) js (j - 1) d can low).lacks k)

pub back_fits : (site : Site) (h : History) (j f : ℕ) (js : List Job) (old mid : Lines) (k : ℕ) → 0 < j → j ≤ length js → ((g : ℕ) → size_of h g ≤ 2147483648) → mid k ≡ add_jobs site h direction.Archive (drop j js) old k
    → bytes_of (old k) + 2147483648 * length js < 2 ^ 64 → bytes_of (mid k) + size_of h f < 2 ^ 64
back_fits site h j f js old mid k some top small added fits =
    let next : suc (j - 1) ≡ j = omega arith in
    let less : length (drop j js) + 1 ≤ length js = subst (λ (m : ℕ). length (drop m js) + 1 ≤ length js) next (length_behind js (j - 1) (omega arith)) in
    let more : bytes_of (mid k) ≤ bytes_of (old k) + 2147483648 * length (drop j js) = subst (λ (ls : List Line). bytes_of ls ≤ bytes_of (old k) + 2147483648 * length (drop j js)) (sym added) (bytes_all site h (drop j js) old k small) in
    room_for_one (bytes_of (mid k)) (bytes_of (old k)) (size_of h f) (length (drop j js)) (length js) (small f) more less fits

pub back_added : (site : Site) (h : History) (j : ℕ) (d : Job) (js : List Job) (old mid now : Lines) (k : ℕ) → 0 < j → j ≤ length js → mid k ≡ add_jobs site h direction.Archive (drop j js) old k
    → now k ≡ add_at (key_of site h (get_or js (j - 1) d)) (line_of site h direction.Archive (get_or js (j - 1) d)) mid k → now k ≡ add_jobs site h direction.Archive (drop (j - 1) js) old k
back_added site h j d js old mid now k some top rest first =
    let low : j - 1 < length js = omega arith in
    first
    ∙ add_same (key_of site h (get_or js (j - 1) d)) (line_of site h direction.Archive (get_or js (j - 1) d)) mid (add_jobs site h direction.Archive (drop ((j - 1) + 1) js) old) k (rest ∙ ap (λ (m : ℕ). add_jobs site h direction.Archive (drop m js) old k) (before_it j some))
    ∙ ap (λ (is : List Job). add_jobs site h direction.Archive is old k) (sym (drop_more js (j - 1) d low))

past_all : (js : List Job) → drop (length js) js ≡ []
past_all [] = refl
past_all (j ∷ js) = past_all js

pub none_added : (site : Site) (h : History) (js : List Job) (old : Lines) (k : ℕ) → old k ≡ add_jobs site h direction.Archive (drop (length js) js) old k
none_added site h js old k = ap (λ (is : List Job). add_jobs site h direction.Archive is old k) (sym (past_all js))
