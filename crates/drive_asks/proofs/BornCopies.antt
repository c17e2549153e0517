-- The archive jobs of copies of a file, born and queued one by one.
use Rattle.std.proofs.Common.{◌≡◌, ◌∙◌, ◌+◌, ◌-◌, ◌*◌, ◌≤◌, ◌<◌, ◌^◌, ℕ, List, [], ◌∷◌, ◌++◌, Bool, true, false, ◌||◌, refl, sym, ap, subst, arith, length, take, drop}
use Rattle.std.specs.Prelude.{Option, Some, None, ◌==◌, if◌then◌else◌, get_or, slice_index_or}
use Rattle.std.proofs.Math.Seq.{take-length}
use Rattle.std.proofs.lemmas.List.{take_more}
use Rattle.std.proofs.lemmas.List.Sums.{sum_by-cons}
use Rattle.cta_site.specs.declared.site.Site.{Site}
use Rattle.cta_model.specs.declared.asks.Direction.TheVariants as direction
use Rattle.cta_model.specs.declared.asks.Job.{Job}
use Rattle.cta_model.specs.Files.{size_of}
use Rattle.cta_model.specs.History.{History, has_number}
use Rattle.cta_model.specs.Mounts.{has_job, job_of, same_job}
use Rattle.cta_model.specs.Queues.{key_of}
use Rattle.part_model.specs.declared.jobs.Line.{Line}
use Rattle.part_model.specs.JobBook.{Book, TellSame, bear_jobs}
use Rattle.part_model.specs.Order.{goes_before}
use Rattle.part_model.specs.Queues.{Lines, add_at, insert_line}
use Rattle.part_laws.specs.Lines.{add_jobs, line_of}
use Rattle.job_queues.specs.Waiting.{bytes_of, jobs_of}
use Rattle.part_laws.proofs.BookSteps.{bear_same, tell_chain}
use Rattle.part_laws.proofs.Loops.{bear_more}
use Rattle.drive_asks.specs.Reading.{CanQueue, born_of}
use Rattle.part_moves.proofs.AddedLines.{add_same, bytes_added, lacks_added}
use Rattle.part_moves.proofs.NewJobs.{born_none}

-- ---- the job book

born_last : (n f : ℕ) (cs : List ℕ) (c : ℕ) → born_of n f (cs ++ c ∷ []) ≡ born_of n f cs ++ job_of n f c ∷ []
born_last n f [] c = refl
born_last n f (d ∷ cs) c = ap (λ (js : List Job). job_of n f d ∷ js) (born_last n f cs c)

-- one job more is born
pub born_more : (n f : ℕ) (cs : List ℕ) (i d : ℕ) (first before after : Book) → i < length cs → TellSame before (bear_jobs (born_of n f (take i cs)) n first) → TellSame after (bear_jobs (job_of n f (get_or cs i d) ∷ []) n before)
    → TellSame after (bear_jobs (born_of n f (take (i + 1) cs)) n first)
born_more n f cs i d first before after low was now =
    subst (λ (js : List Job). TellSame after (bear_jobs js n first)) (sym (ap (born_of n f) (take_more cs i d low) ∙ born_last n f (take i cs) (get_or cs i d)))
    (tell_chain _ _ _ now
    (tell_chain _ _ _ (bear_same (job_of n f (get_or cs i d) ∷ []) n before (bear_jobs (born_of n f (take i cs)) n first) was) (bear_more (born_of n f (take i cs)) (job_of n f (get_or cs i d)) n first)))

-- ---- several jobs

other_copy : (n f c d : ℕ) → (c == d) ≡ false → same_job (job_of n f c) (job_of n f d) ≡ false
other_copy n f c d other = grind arith

not_first : (c d : ℕ) (cs : List ℕ) → has_number c (d ∷ cs) ≡ false → ((c == d) ≡ false) × (has_number c cs ≡ false)
not_first c d cs none = by (c == d) (has_number c cs) none
  where
    by : (a b : Bool) → (a || b) ≡ false → (a ≡ false) × (b ≡ false)
    by true b e = absurd (cc)
    by false b e = (refl, e)

-- a copy that is not among them is not in a queue to which they are added
pub lacks_all : (site : Site) (h : History) (n f c : ℕ) (cs : List ℕ) (lines : Lines) (k : ℕ) → has_number c cs ≡ false → has_job (job_of n f c) (jobs_of (lines k)) ≡ false
    → has_job (job_of n f c) (jobs_of (add_jobs site h direction.Archive (born_of n f cs) lines k)) ≡ false
lacks_all site h n f c [] lines k none lacks = lacks
lacks_all site h n f c (d ∷ cs) lines k none lacks =
    let parts = not_first c d cs none in
    lacks_added (job_of n f c) (key_of site h (job_of n f d)) (line_of site h direction.Archive (job_of n f d)) (add_jobs site h direction.Archive (born_of n f cs) lines) k (other_copy n f c d parts.0) (lacks_all site h n f c cs lines k parts.1 lacks)

-- each adds at most its file's bytes to a queue
pub bytes_all : (site : Site) (h : History) (n f : ℕ) (cs : List ℕ) (lines : Lines) (k : ℕ) → size_of h f ≤ 2147483648 → bytes_of (add_jobs site h direction.Archive (born_of n f cs) lines k) ≤ bytes_of (lines k) + 2147483648 * length cs
bytes_all site h n f [] lines k small = omega arith
bytes_all site h n f (d ∷ cs) lines k small =
    let rest = bytes_all site h n f cs lines k small in
    let one = bytes_added (key_of site h (job_of n f d)) (line_of site h direction.Archive (job_of n f d)) (add_jobs site h direction.Archive (born_of n f cs) lines) k in
    omega (arith, rest, one, small)

pub room_for_one : (bytes was size m : ℕ) → size ≤ 2147483648 → bytes ≤ was + 2147483648 * m → was + 2147483648 * (m + 1) < 2 ^ 64 → bytes + size < 2 ^ 64
room_for_one bytes was size m small more fits = omega arith

-- the first is added behind the others
pub added_first : (site : Site) (h : History) (n f c : ℕ) (cs all : List ℕ) (old mid now : Lines) (k : ℕ) → all ≡ c ∷ cs → mid k ≡ add_jobs site h direction.Archive (born_of n f cs) old k
    → now k ≡ add_at (key_of site h (job_of n f c)) (line_of site h direction.Archive (job_of n f c)) mid k → now k ≡ add_jobs site h direction.Archive (born_of n f all) old k
added_first site h n f c cs all old mid now k is rest first =
    first ∙ add_same (key_of site h (job_of n f c)) (line_of site h direction.Archive (job_of n f c)) mid (add_jobs site h direction.Archive (born_of n f cs) old) k rest
    ∙ ap (λ (xs : List ℕ). add_jobs site h direction.Archive (born_of n f xs) old k) (sym is)

-- ---- the first of a slice, and the rest

rest_is : (c : ℕ) (cs : List ℕ) → take (length (c ∷ cs) - 1) (drop 1 (c ∷ cs)) ≡ cs
rest_is c cs = (let e : length (c ∷ cs) - 1 ≡ length cs = omega arith in ap (λ (n : ℕ). take n cs) e ∙ take-length cs)

-- the first job is not in the queues to which the others are added
pub first_lacks : (site : Site) (h : History) (n f : ℕ) (cs : List ℕ) (old mid : Lines) (k : ℕ) → 1 ≤ length cs → CanQueue site h old n f cs → mid k ≡ add_jobs site h direction.Archive (born_of n f (take (length cs - 1) (drop 1 cs))) old k
    → has_job (job_of n f (slice_index_or cs 0 0)) (jobs_of (mid k)) ≡ false
first_lacks site h n f [] old mid k some can added = absurd (omega (arith, some))
first_lacks site h n f (c ∷ cs) old mid k some can added =
    ap (λ (ls : List Line). has_job (job_of n f c) (jobs_of ls)) (added ∙ ap (λ (xs : List ℕ). add_jobs site h direction.Archive (born_of n f xs) old k) (rest_is c cs))
    ∙ lacks_all site h n f c cs old k can.3 (can.2 k)

-- and has room beside them
pub first_fits : (site : Site) (h : History) (n f : ℕ) (cs : List ℕ) (old mid : Lines) (k : ℕ) → 1 ≤ length cs → size_of h f ≤ 2147483648 → mid k ≡ add_jobs site h direction.Archive (born_of n f (take (length cs - 1) (drop 1 cs))) old k
    → bytes_of (old k) + 2147483648 * length cs < 2 ^ 64 → bytes_of (mid k) + size_of h f < 2 ^ 64
first_fits site h n f [] old mid k some small added fits = absurd (omega (arith, some))
first_fits site h n f (c ∷ cs) old mid k some small added fits =
    let more : bytes_of (mid k) ≤ bytes_of (old k) + 2147483648 * length cs =
    subst (λ (ls : List Line). bytes_of ls ≤ bytes_of (old k) + 2147483648 * length cs) (sym (added ∙ ap (λ (xs : List ℕ). add_jobs site h direction.Archive (born_of n f xs) old k) (rest_is c cs))) (bytes_all site h n f cs old k small) in
    let all : length (c ∷ cs) ≡ length cs + 1 = omega arith in
    room_for_one (bytes_of (mid k)) (bytes_of (old k)) (size_of h f) (length cs) small more (subst (λ (m : ℕ). bytes_of (old k) + 2147483648 * m < 2 ^ 64) all fits)
