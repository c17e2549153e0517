-- Jobs that are put into queues one by one.
use Rattle.std.proofs.Common.{◌≡◌, ◌∙◌, ◌+◌, ◌-◌, ◌*◌, ◌≤◌, ◌<◌, ◌^◌, ℕ, zero, suc, List, [], ◌∷◌, ◌++◌, Bool, true, false, ◌||◌, refl, sym, ap, subst, arith, length}
use Rattle.std.specs.Prelude.{Option, Some, None, ◌==◌, if◌then◌else◌, option_map}
use Rattle.std.proofs.lemmas.List.Sums.{sum_by-cons}
use Rattle.cta_site.specs.declared.site.Site.{Site}
use Rattle.cta_site.specs.Laws.{ClassesAreKnown, CopiesAreRouted}
use Rattle.cta_site.specs.Lookups.{class_of, copies_of, copies_of_class, pool_of}
use Rattle.cta_model.specs.declared.asks.Direction.{Direction}
use Rattle.cta_model.specs.declared.asks.Direction.TheVariants as direction
use Rattle.cta_model.specs.declared.asks.Job.{Job}
use Rattle.cta_model.specs.Files.{copies_of_file, path_of, size_of}
use Rattle.cta_model.specs.History.{History}
use Rattle.cta_model.specs.Mounts.{has_job, job_of, same_job}
use Rattle.cta_model.specs.Queues.{key_by, key_of, pool_of_job}
use Rattle.part_model.specs.declared.jobs.Line.{Line}
use Rattle.part_model.specs.Order.{goes_before}
use Rattle.part_model.specs.Queues.{Lines, add_at, added, insert_line}
use Rattle.part_laws.specs.Queued.{put_jobs}
use Rattle.part_laws.specs.Lines.{add_jobs, line_of}
use Rattle.job_queues.specs.Waiting.{bytes_of, jobs_of}
use Rattle.part_moves.proofs.AddedLines.{add_same, bytes_added, bytes_insert, has_insert}
use Rattle.part_laws.proofs.Orders.{or_swap}

-- ---- the pool of an archive job

pub key_is_pool : (site : Site) (h : History) (j : Job) (c : ℕ) → 1 ≤ c → key_by c site h j ≡ pool_of_job site h j
key_is_pool site h j zero low = absurd (omega arith)
key_is_pool site h j (suc c) low = refl

pool_by : (site : Site) (path : List ℕ) (copy key : ℕ) (o : Option ℕ) → ClassesAreKnown site → CopiesAreRouted site → class_of site path ≡ o → 1 ≤ copy → copy ≤ copies_of site path
    → option_map (λ class. pool_of site class copy) o ≡ Some key → key < length site.pools.items
pool_by site path copy key None known routed is from to e = absurd (cc)
pool_by site path copy key (Some class) known routed is from to e =
    let low = (known path class is).0 in
    let most : copy ≤ copies_of_class site (Some class) = subst (λ o. copy ≤ copies_of_class site o) is to in
    let same : pool_of site class copy ≡ key = cc in
    subst (λ n. n < length site.pools.items) same (routed class copy low from most).1

pub pool_on_site : (site : Site) (h : History) (j : Job) (key : ℕ) → ClassesAreKnown site → CopiesAreRouted site → 1 ≤ j.copy → j.copy ≤ copies_of_file site h j.file → pool_of_job site h j ≡ Some key
    → key < length site.pools.items
pool_on_site site h j key known routed from to is = pool_by site (path_of h j.file) j.copy key (class_of site (path_of h j.file)) known routed refl from to is

-- ---- a line among others

lacks_insert : (j : Job) (l : Line) (ls : List Line) → same_job j l.job ≡ false → has_job j (jobs_of ls) ≡ false → has_job j (jobs_of (insert_line l ls)) ≡ false
lacks_insert j l ls other none = has_insert j l ls ∙ rw (other, none) refl

pub lacks_added : (j : Job) (key : Option ℕ) (l : Line) (lines : Lines) (k : ℕ) → same_job j l.job ≡ false → has_job j (jobs_of (lines k)) ≡ false → has_job j (jobs_of (add_at key l lines k)) ≡ false
lacks_added j None l lines k other none = none
lacks_added j (Some q) l lines k other none =
    elim (k == q) as (λ b. has_job j (jobs_of (if b then insert_line l (lines k) else lines k)) ≡ false) [ true ↦ lacks_insert j l (lines k) other none | false ↦ none ]

pub other_copy : (n c d : ℕ) → c < d → same_job (job_of n n c) (job_of n n d) ≡ false
other_copy n c d low = grind arith

-- ---- jobs one by one

adds_same : (site : Site) (h : History) (way : Direction) (xs : List Job) (a b : Lines) (k : ℕ) → a k ≡ b k → add_jobs site h way xs a k ≡ add_jobs site h way xs b k
adds_same site h way [] a b k e = e
adds_same site h way (j ∷ xs) a b k e = add_same (key_of site h j) (line_of site h way j) (add_jobs site h way xs a) (add_jobs site h way xs b) k (adds_same site h way xs a b k e)

adds_append : (site : Site) (h : History) (way : Direction) (xs ys : List Job) (lines : Lines) (k : ℕ) → add_jobs site h way (xs ++ ys) lines k ≡ add_jobs site h way xs (add_jobs site h way ys lines) k
adds_append site h way [] ys lines k = refl
adds_append site h way (j ∷ xs) ys lines k = add_same (key_of site h j) (line_of site h way j) (add_jobs site h way (xs ++ ys) lines) (add_jobs site h way xs (add_jobs site h way ys lines)) k (adds_append site h way xs ys lines k)

pub added_at_first : (site : Site) (h : History) (n c : ℕ) (lines : Lines) (k : ℕ) → c ≡ 0 → lines k ≡ add_jobs site h direction.Archive (put_jobs n c) lines k
added_at_first site h n c lines k is = ap (λ (m : ℕ). add_jobs site h direction.Archive (put_jobs n m) lines k) (sym is)

-- the last copy is added first, and then the others
pub added_behind : (site : Site) (h : History) (n c : ℕ) (old mid now : Lines) (k : ℕ) → 1 ≤ c → mid k ≡ add_at (key_of site h (job_of n n c)) (line_of site h direction.Archive (job_of n n c)) old k
    → now k ≡ add_jobs site h direction.Archive (put_jobs n (c - 1)) mid k → now k ≡ add_jobs site h direction.Archive (put_jobs n c) old k
added_behind site h n zero old mid now k low first rest = absurd (omega arith)
added_behind site h n (suc d) old mid now k low first rest =
    let less : suc d - 1 ≡ d = omega arith in
    rest
    ∙ ap (λ (m : ℕ). add_jobs site h direction.Archive (put_jobs n m) mid k) less
    ∙ adds_same site h direction.Archive (put_jobs n d) mid (add_jobs site h direction.Archive (job_of n n (suc d) ∷ []) old) k first
    ∙ sym (adds_append site h direction.Archive (put_jobs n d) (job_of n n (suc d) ∷ []) old k)

-- ---- what stays so from copy to copy

pub room_for_one : (bytes size c : ℕ) → 1 ≤ c → size ≤ 2147483648 → bytes + 2147483648 * c < 2 ^ 64 → bytes + size < 2 ^ 64
room_for_one bytes size c low small fits = omega arith

pub room_for_rest : (bytes was size c : ℕ) → 1 ≤ c → size ≤ 2147483648 → bytes ≤ was + size → was + 2147483648 * c < 2 ^ 64 → bytes + 2147483648 * (c - 1) < 2 ^ 64
room_for_rest bytes was size c low small more fits = omega arith

pub lacks_next : (site : Site) (h : History) (n c d : ℕ) (old mid : Lines) (k : ℕ) → 1 ≤ c → d ≤ c - 1 → mid k ≡ add_at (key_of site h (job_of n n c)) (line_of site h direction.Archive (job_of n n c)) old k
    → has_job (job_of n n d) (jobs_of (old k)) ≡ false → has_job (job_of n n d) (jobs_of (mid k)) ≡ false
lacks_next site h n c d old mid k low less added none =
    ap (λ (ls : List Line). has_job (job_of n n d) (jobs_of ls)) added
    ∙ lacks_added (job_of n n d) (key_of site h (job_of n n c)) (line_of site h direction.Archive (job_of n n c)) old k (other_copy n d c (omega arith)) none

pub fits_next : (site : Site) (h : History) (n c : ℕ) (old mid : Lines) (k : ℕ) → 1 ≤ c → size_of h n ≤ 2147483648 → mid k ≡ add_at (key_of site h (job_of n n c)) (line_of site h direction.Archive (job_of n n c)) old k
    → bytes_of (old k) + 2147483648 * c < 2 ^ 64 → bytes_of (mid k) + 2147483648 * (c - 1) < 2 ^ 64
fits_next site h n c old mid k low small added fits =
    room_for_rest (bytes_of (mid k)) (bytes_of (old k)) (size_of h n) c low small
    (subst (λ (ls : List Line). bytes_of ls ≤ bytes_of (old k) + size_of h n) (sym added) (bytes_added (key_of site h (job_of n n c)) (line_of site h direction.Archive (job_of n n c)) old k))
    fits
