-- What is told of the lines of a tree.
use Rattle.std.proofs.Common.{◌≡◌, ◌∙◌, ◌<◌, ◌≤◌, ◌+◌, ◌^◌, ℕ, suc, List, [], ◌∷◌, length, Some, None, Bool, true, false, ◌||◌, refl, sym, ap, subst, arith}
use Rattle.std.specs.Prelude.{◌==◌, not, map, filter, min, max, if◌then◌else◌}
use Rattle.std.proofs.lemmas.Bool.{eqb-true}
use Rattle.cta_model.specs.declared.asks.Job.{Job}
use Rattle.cta_model.specs.declared.states.Sums.{Sums}
use Rattle.cta_model.specs.Mounts.{same_job, has_job}
use Rattle.cta_model.specs.Queues.{highest, least}
use Rattle.part_model.specs.declared.jobs.Line.{Line}
use Rattle.part_model.specs.Order.{goes_before}
use Rattle.part_model.specs.Queues.{Queues, lines_in, front_job, job_after, line_sums}
use Rattle.sum_trees.specs.Sums as trees
use Rattle.sum_trees.specs.Order.{first_of, first_after}
use Rattle.sum_trees.specs.Forests.{items_in}
use Rattle.job_queues.specs.declared.queued.Queued.{Queued}
use Rattle.job_queues.specs.declared.queued.Totals.{Totals}
use Rattle.job_queues.specs.Laws.{queued_before, own_totals, both_totals}
use Rattle.job_queues.specs.Waiting.{line_of, lines_of, queues_of, bytes_of, jobs_of}
use Rattle.job_queues.proofs.Lines.{line_tree, bytes_cons}

-- ---- behind a job

filter_lines : (p : Line → Bool) (qs : List Queued) → lines_of (filter (λ (q : Queued). p (line_of q)) qs) ≡ filter p (lines_of qs)
filter_lines p [] = refl
filter_lines p (q ∷ qs) =
    elim (p (line_of q)) as (λ c. lines_of (if c then q ∷ filter (λ (x : Queued). p (line_of x)) qs else filter (λ (x : Queued). p (line_of x)) qs) ≡ (if c then (line_of q) ∷ filter p (lines_of qs) else filter p (lines_of qs)))
    [ true ↦ ap (λ l. (line_of q) ∷ l) (filter_lines p qs) | false ↦ filter_lines p qs ]

front_none : (qs : List Queued) → None ≡ first_of qs → None ≡ front_job (lines_of qs)
front_none [] e = refl
front_none (q ∷ qs) e = absurd (cc)

front_some : (qs : List Queued) (q : Queued) → Some q ≡ first_of qs → Some q.job ≡ front_job (lines_of qs)
front_some [] q e = absurd (cc)
front_some (x ∷ qs) q e = let same : q ≡ x = cc in ap (λ (y : Queued). Some y.job) same

pub after_none : (ts : List (List Queued)) (v : Queues) (key : ℕ) (q : Queued) (job : Job) → queues_of ts ≡ v → q.job ≡ job → None ≡ first_after queued_before q (items_in ts key) → None ≡ job_after job (lines_in v key)
after_none ts v key q job e is h =
    front_none (filter (queued_before q) (items_in ts key)) h
    ∙ ap front_job (filter_lines (λ (l : Line). goes_before q.job l.job) (items_in ts key))
    ∙ (λ i. job_after (is i) (line_tree ts v key e i))

pub after_some : (ts : List (List Queued)) (v : Queues) (key : ℕ) (q next : Queued) (job : Job) → queues_of ts ≡ v → q.job ≡ job → Some next ≡ first_after queued_before q (items_in ts key) → Some next.job ≡ job_after job (lines_in v key)
after_some ts v key q next job e is h =
    front_some (filter (queued_before q) (items_in ts key)) next h
    ∙ ap front_job (filter_lines (λ (l : Line). goes_before q.job l.job) (items_in ts key))
    ∙ (λ i. job_after (is i) (line_tree ts v key e i))

-- ---- sums

-- how queued lines are summed
abbrev pub sums : trees.Sums Queued Totals
sums = record { own = own_totals; joined = both_totals }

-- totals are those of lines
record Tell (t : Totals) (ls : List Line) : Type 0 where
  files : t.files ≡ length ls
  bytes : t.bytes ≡ bytes_of ls
  smallest : t.least ≡ least (map (λ (l : Line). l.len) ls)
  priority : t.priority ≡ highest (map (λ (l : Line). l.priority) ls)
  age : t.age ≡ least (map (λ (l : Line). l.age) ls)

totals_tell : (x : Queued) (xs : List Queued) → length (lines_of (x ∷ xs)) < 2 ^ 32 → bytes_of (lines_of (x ∷ xs)) < 2 ^ 64 → Tell (trees.led sums (own_totals x) (trees.sum_of sums xs)) (lines_of (x ∷ xs))
totals_tell x [] few fits = record { files = omega arith; bytes = (let e : bytes_of (lines_of (x ∷ [])) ≡ x.len + bytes_of [] = bytes_cons (line_of x) [] in omega arith); smallest = refl; priority = omega arith; age = refl }
totals_tell x (y ∷ ys) few fits =
    let count : suc (length (lines_of (y ∷ ys))) < 2 ^ 32 = few in
    let cons : bytes_of (lines_of (x ∷ y ∷ ys)) ≡ x.len + bytes_of (lines_of (y ∷ ys)) = bytes_cons (line_of x) (lines_of (y ∷ ys)) in
    let t = totals_tell y ys (omega arith) (omega arith) in
    let files : (trees.led sums (own_totals y) (trees.sum_of sums ys)).files ≡ length (lines_of (y ∷ ys)) = t.files in
    let bytes : (trees.led sums (own_totals y) (trees.sum_of sums ys)).bytes ≡ bytes_of (lines_of (y ∷ ys)) = t.bytes in
    let all_files : min (1 + (trees.led sums (own_totals y) (trees.sum_of sums ys)).files) 4294967295 ≡ suc (length (lines_of (y ∷ ys))) = omega arith in
    let all_bytes : min (x.len + (trees.led sums (own_totals y) (trees.sum_of sums ys)).bytes) 18446744073709551615 ≡ x.len + bytes_of (lines_of (y ∷ ys)) = omega arith in
    record {
      files = all_files;
      bytes = all_bytes ∙ sym cons;
      smallest = ap (min x.len) t.smallest;
      priority = ap (max x.priority) t.priority;
      age = ap (min x.age) t.age;
    }

abbrev sums_by : Queued → Totals → Sums
sums_by q t = record { files = t.files; bytes = t.bytes; least = t.least; oldest = q.job; born = q.born; priority = t.priority; age = t.age }

sums_are : (qs : List Queued) (q : Queued) (t : Totals) → length (lines_of qs) < 2 ^ 32 → bytes_of (lines_of qs) < 2 ^ 64 → Some q ≡ first_of qs → Some t ≡ trees.sum_of sums qs → Some (sums_by q t) ≡ line_sums (lines_of qs)
sums_are [] q t few fits first sum = absurd (cc)
sums_are (x ∷ xs) q t few fits first sum =
    let same : q ≡ x = cc in
    let is : t ≡ trees.led sums (own_totals x) (trees.sum_of sums xs) = cc in
    let told = totals_tell x xs few fits in
    (λ i. Some (sums_by (same i) (is i)))
    ∙ (λ i. Some (record { files = told.files i; bytes = told.bytes i; least = told.smallest i; oldest = x.job; born = x.born; priority = told.priority i; age = told.age i }))

pub sums_told : (ts : List (List Queued)) (v : Queues) (key : ℕ) (q : Queued) (t : Totals) → queues_of ts ≡ v → length (items_in ts key) < 2 ^ 32 → ((k : ℕ) → bytes_of (lines_in (queues_of ts) k) < 2 ^ 64)
    → Some q ≡ first_of (items_in ts key) → Some t ≡ trees.sum_of sums (items_in ts key) → Some (sums_by q t) ≡ line_sums (lines_in v key)
sums_told ts v key q t e few fits first sum =
    let is : lines_of (items_in ts key) ≡ lines_in v key = line_tree ts v key e in
    let n : length (lines_of (items_in ts key)) ≡ length (items_in ts key) = count (items_in ts key) in
    sums_are (items_in ts key) q t (omega arith) (subst (λ (l : List Line). bytes_of l < 2 ^ 64) (ap (λ w. lines_in w key) e ∙ sym is) (fits key)) first sum ∙ ap line_sums is
  where
    count : (qs : List Queued) → length (lines_of qs) ≡ length qs
    count [] = refl
    count (x ∷ qs) = ap suc (count qs)
