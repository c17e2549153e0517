-- The copies of one file.
use Rattle.std.proofs.Common.{◌≡◌, ◌∙◌, ◌<◌, ◌≤◌, ℕ, suc, List, [], ◌∷◌, length, Some, None, Bool, true, false, ◌||◌, refl, sym, ap, subst, arith}
use Rattle.std.specs.Prelude.{Option, ◌==◌, ◌&&◌, not, filter, if◌then◌else◌}
use Rattle.std.proofs.lemmas.Bool.{eqb-true, eq-eqb}
use Rattle.cta_model.specs.declared.asks.Job.{Job}
use Rattle.cta_model.specs.Mounts.{has_copy}
use Rattle.part_model.specs.Failed.{removed_copies, removed_file}
use Rattle.sum_trees.specs.Order.{IsSorted, GoesFirst, first_of, first_from}
use Rattle.sum_trees.specs.Forests.{items_in}
use Rattle.failed_copies.specs.declared.rows.FailedRow.{FailedRow}
use Rattle.failed_copies.specs.Copies.{copy_of, copies_of, row_before, has_file, IsOfFile}

neither : (a b : Bool) → a ≡ false → b ≡ false → (a || b) ≡ false
neither true b e f = e
neither false b e f = f

clash : {b : Bool} → b ≡ false → b ≡ true → ⊥
clash e f = cc

is_no : (a : Bool) → (a ≡ true → ⊥) → a ≡ false
is_no true f = absurd (f refl)
is_no false f = refl

unsaid : (a : Bool) → not a ≡ true → a ≡ false
unsaid true h = absurd (cc)
unsaid false h = refl

said : (a : Bool) → not a ≡ false → a ≡ true
said true h = refl
said false h = absurd (cc)

-- ---- the first copy of a file

abbrev is_from : FailedRow → FailedRow → Bool
is_from start y = not (row_before y start)

begins : (start y : FailedRow) → start.copy ≡ 0 → (y.file == start.file) ≡ true → row_before y start ≡ false
begins start y c e = grind arith

ahead : (start y : FailedRow) → start.copy ≡ 0 → row_before y start ≡ true → (y.file == start.file) ≡ false
ahead start y c e = grind arith

past : (start next : FailedRow) → row_before next start ≡ false → (next.file == start.file) ≡ false → start.file < next.file
past start next e ne = grind arith

file_most : (a b : FailedRow) → row_before a b ≡ true → a.file ≤ b.file
file_most a b e = grind arith

apart : (x y : ℕ) → x < y → (y == x) ≡ false
apart x y h = grind arith

beyond : (start next y : FailedRow) → row_before next start ≡ false → (next.file == start.file) ≡ false → row_before next y ≡ true → (y.file == start.file) ≡ false
beyond start next y e ne g = let above : start.file < next.file = past start next e ne in let most : next.file ≤ y.file = file_most next y g in apart start.file y.file (omega arith)

from_none : (start : FailedRow) (qs : List FailedRow) → start.copy ≡ 0 → None ≡ first_of (filter (is_from start) qs) → has_file start.file (copies_of qs) ≡ false
from_none start [] c e = refl
from_none start (q ∷ qs) c e =
    elim (is_from start q) as (λ b. is_from start q ≡ b → None ≡ first_of (if b then q ∷ filter (is_from start) qs else filter (is_from start) qs) → ((q.file == start.file) || has_file start.file (copies_of qs)) ≡ false) [
      | true ↦ λ is g. absurd (cc)
      | false ↦ λ is g. neither _ _ (is_no _ (λ bad. clash is (ap not (begins start q c bad)))) (from_none start qs c g)
    ] refl e

passes_in : (p : FailedRow → Bool) (qs : List FailedRow) (next : FailedRow) → Some next ≡ first_of (filter p qs) → has_copy next.file next.copy (copies_of qs) ≡ true
passes_in p [] next e = absurd (cc)
passes_in p (q ∷ qs) next e =
    elim (p q) as (λ b. Some next ≡ first_of (if b then q ∷ filter p qs else filter p qs) → ((q.file == next.file && q.copy == next.copy) || has_copy next.file next.copy (copies_of qs)) ≡ true) [
      | true ↦ λ g. (let same : next ≡ q = cc in first_or _ _ (subst (λ (x : FailedRow). (x.file == next.file && x.copy == next.copy) ≡ true) same (itself next)))
      | false ↦ λ g. last_or _ _ (passes_in p qs next g)
    ] e
  where
    first_or : (a b : Bool) → a ≡ true → (a || b) ≡ true
    first_or true b e = refl
    first_or false b e = absurd (cc)

    last_or : (a b : Bool) → b ≡ true → (a || b) ≡ true
    last_or true b e = refl
    last_or false b e = e

    itself : (r : FailedRow) → (r.file == r.file && r.copy == r.copy) ≡ true
    itself r = (λ i. eq-eqb r.file r.file refl i && eq-eqb r.copy r.copy refl i)

none_beyond : (start next : FailedRow) (qs : List FailedRow) → row_before next start ≡ false → (next.file == start.file) ≡ false → GoesFirst row_before next qs → has_file start.file (copies_of qs) ≡ false
none_beyond start next [] e ne g = refl
none_beyond start next (q ∷ qs) e ne g = neither _ _ (beyond start next q e ne g.0) (none_beyond start next qs e ne g.1)

from_other : (start next : FailedRow) (qs : List FailedRow) → start.copy ≡ 0 → IsSorted row_before qs → Some next ≡ first_of (filter (is_from start) qs) → (next.file == start.file) ≡ false → has_file start.file (copies_of qs) ≡ false
from_other start next [] c s e ne = absurd (cc)
from_other start next (q ∷ qs) c s e ne =
    elim (is_from start q) as (λ b. is_from start q ≡ b → Some next ≡ first_of (if b then q ∷ filter (is_from start) qs else filter (is_from start) qs) → ((q.file == start.file) || has_file start.file (copies_of qs)) ≡ false) [
      | true ↦ λ is g. (let same : next ≡ q = cc in
          let here : (q.file == start.file) ≡ false = subst (λ (x : FailedRow). (x.file == start.file) ≡ false) same ne in
          neither _ _ here (none_beyond start q qs (unsaid (row_before q start) is) here s.0))
      | false ↦ λ is g. neither _ _ (ahead start q c (said (row_before q start) is)) (from_other start next qs c s.1 g ne)
    ] refl e

-- ---- the same of the one tree

abbrev start_of : ℕ → FailedRow
start_of f = record { file = f; copy = 0 }

pub of_none : (trees : List (List FailedRow)) (v : List Job) (file : ℕ) → copies_of (items_in trees 0) ≡ v → None ≡ first_from row_before (start_of file) (items_in trees 0) → has_file file v ≡ false
of_none trees v file e h = ap (has_file file) (sym e) ∙ from_none (start_of file) (items_in trees 0) refl h

pub of_some : (trees : List (List FailedRow)) (v : List Job) (file : ℕ) (next : FailedRow) (job : Job) → copies_of (items_in trees 0) ≡ v → job ≡ copy_of next → Some next ≡ first_from row_before (start_of file) (items_in trees 0) → has_copy job.file job.copy v ≡ true
of_some trees v file next job e is h = (λ i. has_copy (is i).file (is i).copy (sym e i)) ∙ passes_in (is_from (start_of file)) (items_in trees 0) next h

differ : (x y : ℕ) → (x ≡ y → ⊥) → (x == y) ≡ false
differ x y h = is_no _ (λ is. h (eqb-true x y is))

pub of_other : (trees : List (List FailedRow)) (v : List Job) (file : ℕ) (next : FailedRow) → copies_of (items_in trees 0) ≡ v → IsSorted row_before (items_in trees 0) → Some next ≡ first_from row_before (start_of file) (items_in trees 0) → (next.file ≡ file → ⊥) → has_file file v ≡ false
of_other trees v file next e s h ne = ap (has_file file) (sym e) ∙ from_other (start_of file) next (items_in trees 0) refl s h (differ next.file file ne)

-- ---- all copies of a file leave

either_no : (a : Bool) → (a || false) ≡ a
either_no true = refl
either_no false = refl

-- the copy of a file that leaves would have left with its file
pub file_less : (f : ℕ) (job : Job) (js : List Job) → job.file ≡ f → removed_file (Some f) (removed_copies (job ∷ []) js) ≡ removed_file (Some f) js
file_less f job [] e = refl
file_less f job (x ∷ js) e = by (has_copy x.file x.copy (job ∷ [])) refl (x.file == f) refl (file_less f job js e)
  where
    file_is : has_copy x.file x.copy (job ∷ []) ≡ true → (x.file == f) ≡ true
    file_is h = same (job.file == x.file) refl (job.copy == x.copy) (sym (either_no (job.file == x.file && job.copy == x.copy)) ∙ h)
      where
        same : (a : Bool) → (job.file == x.file) ≡ a → (b : Bool) → (a && b) ≡ true → (x.file == f) ≡ true
        same true ea b g = eq-eqb x.file f (sym (eqb-true job.file x.file ea) ∙ e)
        same false ea b g = absurd (cc)

    by : (a : Bool) → has_copy x.file x.copy (job ∷ []) ≡ a → (b : Bool) → (x.file == f) ≡ b
        → removed_file (Some f) (removed_copies (job ∷ []) js) ≡ removed_file (Some f) js
        → removed_file (Some f) (if not a then x ∷ removed_copies (job ∷ []) js else removed_copies (job ∷ []) js) ≡ (if not b then x ∷ removed_file (Some f) js else removed_file (Some f) js)
    by true ea true eb is = is
    by true ea false eb is = absurd (clash eb (file_is ea))
    by false ea true eb is = ap (λ (c : Bool). if not c then x ∷ removed_file (Some f) (removed_copies (job ∷ []) js) else removed_file (Some f) (removed_copies (job ∷ []) js)) eb ∙ is
    by false ea false eb is = ap (λ (c : Bool). if not c then x ∷ removed_file (Some f) (removed_copies (job ∷ []) js) else removed_file (Some f) (removed_copies (job ∷ []) js)) eb ∙ ap (λ l. x ∷ l) is

pub file_gone : (f : ℕ) (js : List Job) → has_file f js ≡ false → removed_file (Some f) js ≡ js
file_gone f [] e = refl
file_gone f (x ∷ js) e = by (x.file == f) (has_file f js) e (file_gone f js)
  where
    by : (a b : Bool) → (a || b) ≡ false → (b ≡ false → removed_file (Some f) js ≡ js) → (if not a then x ∷ removed_file (Some f) js else removed_file (Some f) js) ≡ x ∷ js
    by true b g is = absurd (cc)
    by false b g is = ap (λ l. x ∷ l) (is g)

-- ---- fewer are left

no_more : (job : Job) (js : List Job) → length (removed_copies (job ∷ []) js) ≤ length js
no_more job [] = omega arith
no_more job (x ∷ js) = by (has_copy x.file x.copy (job ∷ [])) (removed_copies (job ∷ []) js) (no_more job js)
  where
    by : (a : Bool) (xs : List Job) → length xs ≤ length js → length (if not a then x ∷ xs else xs) ≤ suc (length js)
    by true xs h = omega arith
    by false xs h = omega arith

pub fewer : (job : Job) (js : List Job) → has_copy job.file job.copy js ≡ true → length (removed_copies (job ∷ []) js) < length js
fewer job [] e = absurd (cc)
fewer job (x ∷ js) e = by (x.file == job.file) refl (x.copy == job.copy) refl e (fewer job js) (no_more job js)
  where
    less : (a : Bool) (xs : List Job) → length xs < length js → length (if not a then x ∷ xs else xs) < suc (length js)
    less true xs h = omega arith
    less false xs h = omega arith

    hit : (x.file == job.file) ≡ true → (x.copy == job.copy) ≡ true → has_copy x.file x.copy (job ∷ []) ≡ true
    hit ef ec = (λ i. (eq-eqb job.file x.file (sym (eqb-true x.file job.file ef)) i && eq-eqb job.copy x.copy (sym (eqb-true x.copy job.copy ec)) i) || false)

    gone : (a : Bool) (xs : List Job) → a ≡ true → length xs ≤ length js → length (if not a then x ∷ xs else xs) < suc (length js)
    gone true xs ea h = omega arith
    gone false xs ea h = absurd (cc)

    by : (a : Bool) → (x.file == job.file) ≡ a → (b : Bool) → (x.copy == job.copy) ≡ b → ((a && b) || has_copy job.file job.copy js) ≡ true
        → (has_copy job.file job.copy js ≡ true → length (removed_copies (job ∷ []) js) < length js) → length (removed_copies (job ∷ []) js) ≤ length js → length (removed_copies (job ∷ []) (x ∷ js)) < suc (length js)
    by true ea true eb h go least = gone (has_copy x.file x.copy (job ∷ [])) (removed_copies (job ∷ []) js) (hit ea eb) least
    by true ea false eb h go least = less (has_copy x.file x.copy (job ∷ [])) (removed_copies (job ∷ []) js) (go h)
    by false ea b eb h go least = less (has_copy x.file x.copy (job ∷ [])) (removed_copies (job ∷ []) js) (go h)

pub file_gone_with : (f : ℕ) (job : Job) (old new : List Job) → job.file ≡ f → new ≡ removed_copies (job ∷ []) old → removed_file (Some f) new ≡ removed_file (Some f) old
file_gone_with f job old new e is = ap (λ l. removed_file (Some f) l) is ∙ file_less f job old e

pub none_of_file : (f : ℕ) (js : List Job) (told : Option Job) → IsOfFile f js told → ((job : Job) → told ≡ Some job → ⊥) → js ≡ removed_file (Some f) js
none_of_file f js None is other = sym (file_gone f js is)
none_of_file f js (Some job) is other = absurd (other job refl)
