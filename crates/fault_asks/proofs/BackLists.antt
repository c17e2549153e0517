-- Jobs that are put back into queues, one by one.
use Rattle.std.proofs.Common.{◌≡◌, ◌∙◌, ◌+◌, ◌-◌, ◌*◌, ◌≤◌, ◌<◌, ◌^◌, ℕ, zero, suc, List, [], ◌∷◌, Bool, true, false, ◌||◌, refl, sym, ap, subst, arith, length, length-drop, drop}
use Rattle.std.specs.Prelude.{Option, Some, None, ◌==◌, if◌then◌else◌, filter, slice_index_or}
use Rattle.std.proofs.lemmas.List.Sums.{sum_by-cons}
use Rattle.cta_site.specs.declared.site.Site.{Site}
use Rattle.cta_model.specs.declared.asks.Job.{Job}
use Rattle.cta_model.specs.History.{History}
use Rattle.cta_model.specs.Mounts.{has_job, same_job}
use Rattle.cta_laws.proofs.JobLists.{filter_le}
use Rattle.job_book.specs.Live.{lives}
use Rattle.job_queues.specs.Waiting.{bytes_of, jobs_of}
use Rattle.part_model.specs.declared.jobs.Line.{Line}
use Rattle.part_model.specs.JobBook.{Book}
use Rattle.part_model.specs.Order.{goes_before}
use Rattle.part_model.specs.Queues.{Lines, add_at, insert_line}
use Rattle.fault_asks.specs.Failing.{CanQueue, add_by, jobs_live}
use Rattle.fault_asks.proofs.FailedLists.{behind}
use Rattle.part_moves.proofs.AddedLines.{bytes_added, lacks_added}
use Rattle.part_moves.proofs.NewJobs.{room_for_one}

-- ---- several jobs

pub parts_none : (a b : Bool) → (a || b) ≡ false → (a ≡ false) × (b ≡ false)
parts_none true b e = absurd (cc)
parts_none false b e = (refl, e)

-- a job that is not among them is not in a queue to which they are added
pub lacks_by : (key : Job → Option ℕ) (line : Job → Line) → ((i : Job) → (line i).job ≡ i) → (j : Job) (js : List Job) (lines : Lines) (k : ℕ) → has_job j js ≡ false → has_job j (jobs_of (lines k)) ≡ false → has_job j (jobs_of (add_by key line js lines k)) ≡ false
lacks_by key line own j [] lines k none lacks = lacks
lacks_by key line own j (i ∷ js) lines k none lacks =
    let parts = parts_none (same_job j i) (has_job j js) none in
    lacks_added j (key i) (line i) (add_by key line js lines) k (ap (same_job j) (own i) ∙ parts.0) (lacks_by key line own j js lines k parts.1 lacks)

-- each adds at most so many bytes to a queue
pub bytes_by : (key : Job → Option ℕ) (line : Job → Line) → ((i : Job) → (line i).len ≤ 2147483648) → (js : List Job) (lines : Lines) (k : ℕ) → bytes_of (add_by key line js lines k) ≤ bytes_of (lines k) + 2147483648 * length js
bytes_by key line small [] lines k = omega arith
bytes_by key line small (i ∷ js) lines k =
    let rest = bytes_by key line small js lines k in
    let one = bytes_added (key i) (line i) (add_by key line js lines) k in
    let len = small i in
    omega (arith, rest, one, len)

-- ---- those that are live

pub fewer : (j : Job) (test : Job → Bool) (js : List Job) → has_job j js ≡ false → has_job j (filter test js) ≡ false
fewer j test [] none = refl
fewer j test (i ∷ js) none = by (test i) (parts_none (same_job j i) (has_job j js) none) (fewer j test js (parts_none (same_job j i) (has_job j js) none).1)
  where
    by : (t : Bool) → (same_job j i ≡ false) × (has_job j js ≡ false) → has_job j (filter test js) ≡ false → has_job j (if t then i ∷ filter test js else filter test js) ≡ false
    by true parts rest = rw (parts.0, rest) refl
    by false parts rest = rest

queue_drop : (site : Site) (h : History) (b : Book) (lines : Lines) (n : ℕ) (js : List Job) → CanQueue site h b lines js → CanQueue site h b lines (drop n js)
queue_drop site h b lines zero js can = can
queue_drop site h b lines (suc n) [] can = can
queue_drop site h b lines (suc n) (j ∷ js) can = queue_drop site h b lines n js can.2

-- a job, and those behind it
pub can_back : (site : Site) (h : History) (b : Book) (lines : Lines) (n : ℕ) (d : Job) (jobs : List Job) → 0 < n → n ≤ length jobs → CanQueue site h b lines jobs → CanQueue site h b lines (slice_index_or jobs (n - 1) d ∷ drop n jobs)
can_back site h b lines n d jobs some top can = subst (CanQueue site h b lines) (behind jobs n d some top) (queue_drop site h b lines (n - 1) jobs can)

-- the first job is not in the queues to which the others are added
pub first_lacks : (site : Site) (h : History) (b : Book) (key : Job → Option ℕ) (line : Job → Line) → ((i : Job) → (line i).job ≡ i) → (j : Job) (js : List Job) (old mid : Lines) → CanQueue site h b old (j ∷ js)
    → ((k : ℕ) → mid k ≡ add_by key line (jobs_live b js) old k) → lives j b ≡ true → (k : ℕ) → has_job j (jobs_of (mid k)) ≡ false
first_lacks site h b key line own j js old mid can added live k =
    ap (λ (ls : List Line). has_job j (jobs_of ls)) (added k) ∙ lacks_by key line own j (jobs_live b js) old k (fewer j (λ i. lives i b) js can.1) ((can.0 live).lacks k)

-- a job has room beside those behind it
pub back_fits : (b : Book) (key : Job → Option ℕ) (line : Job → Line) → ((i : Job) → (line i).len ≤ 2147483648) → (n : ℕ) (jobs : List Job) (old mid : Lines) (size : ℕ) → 0 < n → n ≤ length jobs → size ≤ 2147483648
    → ((k : ℕ) → mid k ≡ add_by key line (jobs_live b (drop n jobs)) old k) → ((k : ℕ) → bytes_of (old k) + 2147483648 * length jobs < 2 ^ 64) → (k : ℕ) → bytes_of (mid k) + size < 2 ^ 64
back_fits b key line small n jobs old mid size some top low added fits k =
    let more : bytes_of (mid k) ≤ bytes_of (old k) + 2147483648 * length (jobs_live b (drop n jobs)) =
    subst (λ (ls : List Line). bytes_of ls ≤ bytes_of (old k) + 2147483648 * length (jobs_live b (drop n jobs))) (sym (added k)) (bytes_by key line small (jobs_live b (drop n jobs)) old k) in
    let less : length (jobs_live b (drop n jobs)) + 1 ≤ length jobs = omega (arith, filter_le (λ i. lives i b) (drop n jobs), length-drop n jobs) in
    room_for_one (bytes_of (mid k)) (bytes_of (old k)) size (length (jobs_live b (drop n jobs))) (length jobs) low more less (fits k)
