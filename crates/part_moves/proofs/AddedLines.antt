-- A line among others: its bytes, and the jobs that are there.
use Rattle.std.proofs.Common.{◌≡◌, ◌∙◌, ◌+◌, ◌≤◌, ℕ, List, [], ◌∷◌, Some, None, Bool, true, false, ◌||◌, refl, ap, arith}
use Rattle.std.specs.Prelude.{Option, ◌==◌, if◌then◌else◌}
use Rattle.cta_model.specs.declared.asks.Job.{Job}
use Rattle.cta_model.specs.Mounts.{has_job, same_job}
use Rattle.part_model.specs.declared.jobs.Line.{Line}
use Rattle.part_model.specs.Order.{goes_before}
use Rattle.part_model.specs.Queues.{Lines, add_at, insert_line}
use Rattle.job_queues.specs.Waiting.{bytes_of, jobs_of}
use Rattle.std.proofs.lemmas.List.Sums.{sum_by-cons}
use Rattle.part_laws.proofs.Orders.{or_swap}

pub bytes_insert : (l : Line) (ls : List Line) → bytes_of (insert_line l ls) ≡ l.len + bytes_of ls
bytes_insert l [] = sum_by-cons (λ (x : Line). x.len) l []
bytes_insert l (k ∷ ks) = elim (goes_before l.job k.job) as (λ b. bytes_of (if b then l ∷ k ∷ ks else k ∷ insert_line l ks) ≡ l.len + bytes_of (k ∷ ks)) [
  | true ↦ sum_by-cons (λ (x : Line). x.len) l (k ∷ ks)
  | false ↦
      (let a : bytes_of (k ∷ insert_line l ks) ≡ k.len + bytes_of (insert_line l ks) = sum_by-cons (λ (x : Line). x.len) k (insert_line l ks) in
      let b : bytes_of (k ∷ ks) ≡ k.len + bytes_of ks = sum_by-cons (λ (x : Line). x.len) k ks in
      omega (arith, bytes_insert l ks))
]

pub bytes_added : (key : Option ℕ) (l : Line) (lines : Lines) (k : ℕ) → bytes_of (add_at key l lines k) ≤ bytes_of (lines k) + l.len
bytes_added None l lines k = omega arith
bytes_added (Some q) l lines k =
    elim (k == q) as (λ b. bytes_of (if b then insert_line l (lines k) else lines k) ≤ bytes_of (lines k) + l.len) [ true ↦ omega (arith, bytes_insert l (lines k)) | false ↦ omega arith ]

pub has_insert : (j : Job) (l : Line) (ls : List Line) → has_job j (jobs_of (insert_line l ls)) ≡ (same_job j l.job || has_job j (jobs_of ls))
has_insert j l [] = refl
has_insert j l (k ∷ ks) =
    elim (goes_before l.job k.job) as (λ b. has_job j (jobs_of (if b then l ∷ k ∷ ks else k ∷ insert_line l ks)) ≡ (same_job j l.job || (same_job j k.job || has_job j (jobs_of ks))))
    [ true ↦ refl | false ↦ ap (λ (b : Bool). same_job j k.job || b) (has_insert j l ks) ∙ or_swap (same_job j k.job) (same_job j l.job) (has_job j (jobs_of ks)) ]

pub lacks_added : (j : Job) (key : Option ℕ) (l : Line) (lines : Lines) (k : ℕ) → same_job j l.job ≡ false → has_job j (jobs_of (lines k)) ≡ false → has_job j (jobs_of (add_at key l lines k)) ≡ false
lacks_added j None l lines k other none = none
lacks_added j (Some q) l lines k other none =
    elim (k == q) as (λ b. has_job j (jobs_of (if b then insert_line l (lines k) else lines k)) ≡ false) [ true ↦ has_insert j l (lines k) ∙ rw (other, none) refl | false ↦ none ]

pub add_same : (key : Option ℕ) (l : Line) (a b : Lines) (k : ℕ) → a k ≡ b k → add_at key l a k ≡ add_at key l b k
add_same None l a b k e = e
add_same (Some q) l a b k e = ap (λ (ls : List Line). if k == q then insert_line l ls else ls) e
