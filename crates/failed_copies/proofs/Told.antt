-- Failed copies after the calls of their tree.
use Rattle.std.proofs.Common.{◌≡◌, ◌∙◌, ◌<◌, ℕ, List, [], ◌∷◌, length, Some, None, Bool, true, false, ◌||◌, refl, sym, ap, arith}
use Rattle.std.specs.Prelude.{◌==◌, ◌&&◌, not, filter, if◌then◌else◌}
use Rattle.std.proofs.Math.ListN.{set}
use Rattle.cta_model.specs.declared.asks.Job.{Job}
use Rattle.cta_model.specs.Mounts.{has_copy, same_job}
use Rattle.part_model.specs.Order.{goes_before, insert_job, first_job, next_job}
use Rattle.part_model.specs.Failed.{added_copies, removed_copies}
use Rattle.sum_trees.specs.Order.{inserted, unlike, is_like, has_like, first_of, first_after}
use Rattle.sum_trees.specs.Forests.{items_in}
use Rattle.sum_trees.proofs.Stands.{set_here}
use Rattle.job_queues.proofs.Lines.{same_unordered}
use Rattle.failed_copies.specs.declared.rows.FailedRow.{FailedRow}
use Rattle.failed_copies.specs.Copies.{copy_of, copies_of, row_before}

pub copies_inserted : (r : FailedRow) (rs : List FailedRow) → copies_of (inserted row_before r rs) ≡ insert_job (copy_of r) (copies_of rs)
copies_inserted r [] = refl
copies_inserted r (x ∷ rs) =
    elim (goes_before (copy_of r) (copy_of x)) as (λ c. copies_of (if c then r ∷ x ∷ rs else x ∷ inserted row_before r rs) ≡ (if c then copy_of r ∷ copy_of x ∷ copies_of rs else copy_of x ∷ insert_job (copy_of r) (copies_of rs)))
    [ true ↦ refl | false ↦ ap (λ l. copy_of x ∷ l) (copies_inserted r rs) ]

either_no : (a : Bool) → (a || false) ≡ a
either_no true = refl
either_no false = refl

flip_nat : (x y : ℕ) → (x == y) ≡ (y == x)
flip_nat x y = grind arith

flip_copy : (r x : FailedRow) → same_job (copy_of r) (copy_of x) ≡ (x.file == r.file && x.copy == r.copy)
flip_copy r x = (λ i. flip_nat r.file x.file i && flip_nat r.copy x.copy i)

pub like_is_copy : (r : FailedRow) (rs : List FailedRow) → has_like row_before r rs ≡ has_copy r.file r.copy (copies_of rs)
like_is_copy r [] = refl
like_is_copy r (x ∷ rs) = (λ i. (same_unordered (copy_of r) (copy_of x) ∙ flip_copy r x) i || like_is_copy r rs i)

-- the copies but this one
abbrev others : FailedRow → List Job → List Job
others r js = removed_copies (copy_of r ∷ []) js

kept_is : (r x : FailedRow) → not (is_like row_before r x) ≡ not (has_copy x.file x.copy (copy_of r ∷ []))
kept_is r x = ap not (same_unordered (copy_of r) (copy_of x) ∙ sym (either_no (same_job (copy_of r) (copy_of x))))

kept_step : (x : FailedRow) (us : List FailedRow) (js : List Job) (a b : Bool) → a ≡ b → copies_of us ≡ js → copies_of (if a then x ∷ us else us) ≡ (if b then copy_of x ∷ js else js)
kept_step x us js true true e f = ap (λ l. copy_of x ∷ l) f
kept_step x us js true false e f = absurd (cc)
kept_step x us js false true e f = absurd (cc)
kept_step x us js false false e f = f

pub copies_unlike : (r : FailedRow) (rs : List FailedRow) → copies_of (unlike row_before r rs) ≡ others r (copies_of rs)
copies_unlike r [] = refl
copies_unlike r (x ∷ rs) =
    kept_step x (unlike row_before r rs) (others r (copies_of rs)) (not (is_like row_before r x)) (not (has_copy x.file x.copy (copy_of r ∷ []))) (kept_is r x) (copies_unlike r rs)

-- ---- the one tree

-- the row of a job's copy
abbrev pub row_of : Job → FailedRow
row_of j = record { file = j.file; copy = j.copy }

first_tree : (trees : List (List FailedRow)) → length trees ≡ 1 → 0 < length trees
first_tree trees one = omega arith

pub lacks : (trees : List (List FailedRow)) (v : List Job) (r : FailedRow) (job : Job) → copies_of (items_in trees 0) ≡ v → r ≡ row_of job → has_copy job.file job.copy v ≡ false → has_like row_before r (items_in trees 0) ≡ false
lacks trees v r job e which absent = like_is_copy r (items_in trees 0) ∙ (λ i. has_copy (which i).file (which i).copy (e i)) ∙ absent

pub had : (trees : List (List FailedRow)) (v : List Job) (r : FailedRow) (job : Job) → copies_of (items_in trees 0) ≡ v → r ≡ row_of job → has_like row_before r (items_in trees 0) ≡ has_copy job.file job.copy v
had trees v r job e which = like_is_copy r (items_in trees 0) ∙ (λ i. has_copy (which i).file (which i).copy (e i))

pub add_value : (trees now : List (List FailedRow)) (v : List Job) (r : FailedRow) (job : Job) → copies_of (items_in trees 0) ≡ v → length trees ≡ 1 → r ≡ row_of job
    → now ≡ set trees 0 (inserted row_before r (items_in trees 0)) → copies_of (items_in now 0) ≡ added_copies (job ∷ []) v
add_value trees now v r job e one which is =
    ap (λ t. copies_of (items_in t 0)) is
    ∙ ap copies_of (set_here trees 0 (inserted row_before r (items_in trees 0)) [] (first_tree trees one))
    ∙ copies_inserted r (items_in trees 0)
    ∙ (λ i. insert_job (copy_of (which i)) (e i))

pub take_value : (trees now : List (List FailedRow)) (v : List Job) (r : FailedRow) (job : Job) → copies_of (items_in trees 0) ≡ v → length trees ≡ 1 → r ≡ row_of job
    → now ≡ set trees 0 (unlike row_before r (items_in trees 0)) → copies_of (items_in now 0) ≡ removed_copies (job ∷ []) v
take_value trees now v r job e one which is =
    ap (λ t. copies_of (items_in t 0)) is
    ∙ ap copies_of (set_here trees 0 (unlike row_before r (items_in trees 0)) [] (first_tree trees one))
    ∙ copies_unlike r (items_in trees 0)
    ∙ (λ i. others (which i) (e i))

-- ---- the next copy

filter_step : (x : FailedRow) (us : List FailedRow) (js : List Job) (a : Bool) → copies_of us ≡ js → copies_of (if a then x ∷ us else us) ≡ (if a then copy_of x ∷ js else js)
filter_step x us js true f = ap (λ l. copy_of x ∷ l) f
filter_step x us js false f = f

copies_behind : (r : FailedRow) (rs : List FailedRow) → copies_of (filter (row_before r) rs) ≡ filter (goes_before (copy_of r)) (copies_of rs)
copies_behind r [] = refl
copies_behind r (x ∷ rs) = filter_step x (filter (row_before r) rs) (filter (goes_before (copy_of r)) (copies_of rs)) (row_before r x) (copies_behind r rs)

none_first : (rs : List FailedRow) → None ≡ first_of rs → None ≡ first_job (copies_of rs)
none_first [] h = refl
none_first (x ∷ rs) h = absurd (cc)

some_first : (rs : List FailedRow) (next : FailedRow) → Some next ≡ first_of rs → Some (copy_of next) ≡ first_job (copies_of rs)
some_first [] next h = absurd (cc)
some_first (x ∷ rs) next h = (let same : next ≡ x = cc in ap (λ r. Some (copy_of r)) same)

pub after_none : (trees : List (List FailedRow)) (v : List Job) (r : FailedRow) (job : Job) → copies_of (items_in trees 0) ≡ v → r ≡ row_of job → None ≡ first_after row_before r (items_in trees 0) → None ≡ next_job (copy_of (row_of job)) v
after_none trees v r job e which h =
    none_first (filter (row_before r) (items_in trees 0)) h ∙ ap first_job (copies_behind r (items_in trees 0)) ∙ (λ i. next_job (copy_of (which i)) (e i))

pub after_some : (trees : List (List FailedRow)) (v : List Job) (r next : FailedRow) (job : Job) → copies_of (items_in trees 0) ≡ v → r ≡ row_of job → Some next ≡ first_after row_before r (items_in trees 0) → Some (copy_of next) ≡ next_job (copy_of (row_of job)) v
after_some trees v r next job e which h =
    some_first (filter (row_before r) (items_in trees 0)) next h ∙ ap first_job (copies_behind r (items_in trees 0)) ∙ (λ i. next_job (copy_of (which i)) (e i))
