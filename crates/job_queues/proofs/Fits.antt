-- The lines of a tree that fit.
use Rattle.std.proofs.Common.{◌≡◌, ◌∙◌, ℕ, List, [], ◌∷◌, Some, None, Bool, true, false, refl, ap, subst}
use Rattle.std.specs.Prelude.{◌&&◌, filter, if◌then◌else◌, nat_le}
use Rattle.cta_model.specs.declared.asks.Job.{Job}
use Rattle.part_model.specs.declared.jobs.Line.{Line}
use Rattle.part_model.specs.Order.{ComesBefore, InOrder, goes_before}
use Rattle.part_model.specs.Queues.{Queues, lines_in}
use Rattle.sum_trees.specs.Order.{GoesFirst, IsSorted, first_of}
use Rattle.sum_trees.specs.Forests.{items_in}
use Rattle.job_queues.specs.declared.queued.Queued.{Queued}
use Rattle.job_queues.specs.Laws.{queued_before}
use Rattle.job_queues.specs.Waiting.{jobs_of, line_of, lines_of, queues_of}
use Rattle.job_queues.specs.Fitting.{first_fitting, first_line, fits, next_fitting}
use Rattle.job_queues.proofs.Lines.{line_tree}

-- whether the file of what waits has at most so many bytes
abbrev pub queued_fits : ℕ → Queued → Bool
queued_fits room q = nat_le q.len room

filter_step : (x : Queued) (us : List Queued) (ls : List Line) (b : Bool) → lines_of us ≡ ls → lines_of (if b then x ∷ us else us) ≡ (if b then line_of x ∷ ls else ls)
filter_step x us ls true e = ap (λ l. line_of x ∷ l) e
filter_step x us ls false e = e

lines_fitting : (room : ℕ) (qs : List Queued) → lines_of (filter (queued_fits room) qs) ≡ filter (fits room) (lines_of qs)
lines_fitting room [] = refl
lines_fitting room (x ∷ qs) = filter_step x (filter (queued_fits room) qs) (filter (fits room) (lines_of qs)) (queued_fits room x) (lines_fitting room qs)

lines_behind : (room : ℕ) (j : Job) (qs : List Queued)
    → lines_of (filter (λ (q : Queued). goes_before j q.job && queued_fits room q) qs) ≡ filter (λ (l : Line). goes_before j l.job && fits room l) (lines_of qs)
lines_behind room j [] = refl
lines_behind room j (x ∷ qs) =
    filter_step x (filter (λ (q : Queued). goes_before j q.job && queued_fits room q) qs) (filter (λ (l : Line). goes_before j l.job && fits room l) (lines_of qs))
    (goes_before j x.job && queued_fits room x) (lines_behind room j qs)

none_there : (qs : List Queued) → None ≡ first_of qs → None ≡ first_line (lines_of qs)
none_there [] e = refl
none_there (x ∷ qs) e = absurd (cc)

some_there : (qs : List Queued) (q : Queued) → Some q ≡ first_of qs → Some (line_of q) ≡ first_line (lines_of qs)
some_there [] q e = absurd (cc)
some_there (x ∷ qs) q e = (let same : q ≡ x = cc in ap (λ k. Some (line_of k)) same)

pub none_fits : (trees : List (List Queued)) (v : Queues) (key room : ℕ) → queues_of trees ≡ v → None ≡ first_of (filter (queued_fits room) (items_in trees key)) → None ≡ first_fitting room (lines_in v key)
none_fits trees v key room e h =
    none_there _ h ∙ ap first_line (lines_fitting room (items_in trees key)) ∙ ap (λ (l : List Line). first_fitting room l) (line_tree trees v key e)

pub first_fits : (trees : List (List Queued)) (v : Queues) (key room : ℕ) (q : Queued) → queues_of trees ≡ v → Some q ≡ first_of (filter (queued_fits room) (items_in trees key)) → Some (line_of q) ≡ first_fitting room (lines_in v key)
first_fits trees v key room q e h =
    some_there _ q h ∙ ap first_line (lines_fitting room (items_in trees key)) ∙ ap (λ (l : List Line). first_fitting room l) (line_tree trees v key e)

pub none_next : (trees : List (List Queued)) (v : Queues) (key room : ℕ) (like : Queued) (job : Job) → queues_of trees ≡ v → like.job ≡ job
    → None ≡ first_of (filter (λ (q : Queued). goes_before like.job q.job && queued_fits room q) (items_in trees key)) → None ≡ next_fitting room job (lines_in v key)
none_next trees v key room like job e is h =
    none_there _ h ∙ ap first_line (lines_behind room like.job (items_in trees key)) ∙ (λ i. next_fitting room (is i) (line_tree trees v key e i))

pub next_fits : (trees : List (List Queued)) (v : Queues) (key room : ℕ) (like q : Queued) (job : Job) → queues_of trees ≡ v → like.job ≡ job
    → Some q ≡ first_of (filter (λ (k : Queued). goes_before like.job k.job && queued_fits room k) (items_in trees key)) → Some (line_of q) ≡ next_fitting room job (lines_in v key)
next_fits trees v key room like q job e is h =
    some_there _ q h ∙ ap first_line (lines_behind room like.job (items_in trees key)) ∙ (λ i. next_fitting room (is i) (line_tree trees v key e i))

-- ---- in order

comes_first : (q : Queued) (qs : List Queued) → GoesFirst queued_before q qs → ComesBefore q.job (jobs_of (lines_of qs))
comes_first q [] e = tt
comes_first q (x ∷ qs) e = (e.0, comes_first q qs e.1)

jobs_sorted : (qs : List Queued) → IsSorted queued_before qs → InOrder (jobs_of (lines_of qs))
jobs_sorted [] e = tt
jobs_sorted (q ∷ qs) e = (comes_first q qs e.0, jobs_sorted qs e.1)

pub lines_sorted : (trees : List (List Queued)) (v : Queues) (key : ℕ) → queues_of trees ≡ v → IsSorted queued_before (items_in trees key) → InOrder (jobs_of (lines_in v key))
lines_sorted trees v key e sorted = subst (λ (l : List Line). InOrder (jobs_of l)) (line_tree trees v key e) (jobs_sorted (items_in trees key) sorted)
