-- Copies that have failed, one by one.
use Rattle.std.proofs.Common.{◌≡◌, ◌∙◌, ◌+◌, ◌-◌, ◌≤◌, ◌<◌, ℕ, zero, suc, List, [], ◌∷◌, length, Bool, true, false, ◌||◌, refl, ap, subst, arith, drop}
use Rattle.std.specs.Prelude.{is_none, if◌then◌else◌, ◌==◌, ◌&&◌, filter}
use Rattle.std.specs.List.{slice_index_or}
use Rattle.std.proofs.lemmas.List.{drop_more}
use Rattle.cta_model.specs.declared.asks.Job.{Job}
use Rattle.cta_model.specs.Mounts.{has_copy, job_of}
use Rattle.part_model.specs.Failed.{added_copies, copies_of_jobs}
use Rattle.part_model.specs.Order.{goes_before, insert_job, insert_jobs}
use Rattle.part_model.specs.Tapes.{Table, place_in}
use Rattle.fault_asks.specs.Failing.{CanFail, jobs_unplaced}
use Rattle.part_laws.proofs.Orders.{or_swap}

-- the last of those that are left, and the others behind it
pub behind : {A : Type 0} (xs : List A) (n : ℕ) (d : A) → 0 < n → n ≤ length xs → drop (n - 1) xs ≡ slice_index_or xs (n - 1) d ∷ drop n xs
behind xs n d some top =
    let low : n - 1 < length xs = omega (arith, some, top) in
    let next : n - 1 + 1 ≡ n = omega (arith, some) in
    drop_more xs (n - 1) d low ∙ ap (λ m. slice_index_or xs (n - 1) d ∷ drop m xs) next

or_none : (a b : Bool) → a ≡ false → b ≡ false → (a || b) ≡ false
or_none a b x y = rw (x, y) refl

-- a list of jobs with one more among them has the copies of both
has_inserted : (f c : ℕ) (j : Job) (q : List Job) → has_copy f c (insert_job j q) ≡ ((j.file == f && j.copy == c) || has_copy f c q)
has_inserted f c j [] = refl
has_inserted f c j (k ∷ ks) =
    elim (goes_before j k) as (λ b. has_copy f c (if b then j ∷ k ∷ ks else k ∷ insert_job j ks) ≡ ((j.file == f && j.copy == c) || ((k.file == f && k.copy == c) || has_copy f c ks)))
    [ true ↦ refl | false ↦ ap (λ (b : Bool). (k.file == f && k.copy == c) || b) (has_inserted f c j ks) ∙ or_swap (k.file == f && k.copy == c) (j.file == f && j.copy == c) (has_copy f c ks) ]

has_added : (f c : ℕ) (js q : List Job) → has_copy f c (added_copies js q) ≡ (has_copy f c js || has_copy f c q)
has_added f c [] q = refl
has_added f c (j ∷ js) q = has_inserted f c (job_of 0 j.file j.copy) (insert_jobs (copies_of_jobs js) q) ∙ ap (λ (b : Bool). (j.file == f && j.copy == c) || b) (has_added f c js q) ∙ by (j.file == f && j.copy == c) (has_copy f c js) (has_copy f c q)
  where
    by : (a b x : Bool) → (a || (b || x)) ≡ ((a || b) || x)
    by true b x = refl
    by false b x = refl

fewer : (f c : ℕ) (test : Job → Bool) (js : List Job) → has_copy f c js ≡ false → has_copy f c (filter test js) ≡ false
fewer f c test [] none = refl
fewer f c test (j ∷ js) none = by (j.file == f && j.copy == c) (test j) none (λ x. fewer f c test js x) refl
  where
    by : (a t : Bool) → (a || has_copy f c js) ≡ false → (has_copy f c js ≡ false → has_copy f c (filter test js) ≡ false) → (j.file == f && j.copy == c) ≡ a → has_copy f c (if t then j ∷ filter test js else filter test js) ≡ false
    by true t e rest is = absurd (cc)
    by false true e rest is = or_none _ _ is (rest e)
    by false false e rest is = rest e

fail_drop : (copies : List Job) (n : ℕ) (js : List Job) → CanFail copies js → CanFail copies (drop n js)
fail_drop copies zero js can = can
fail_drop copies (suc n) [] can = can
fail_drop copies (suc n) (j ∷ js) can = fail_drop copies n js can.2

-- the first job's copy is not among the failed ones to which those of the others are added
first_apart : (v : Table) (j : Job) (js copies now : List Job) → CanFail copies (j ∷ js) → now ≡ added_copies (jobs_unplaced v js) copies → has_copy j.file j.copy now ≡ false
first_apart v j js copies now can added =
    ap (has_copy j.file j.copy) added ∙ has_added j.file j.copy (jobs_unplaced v js) copies ∙ or_none _ _ (fewer j.file j.copy (λ (k : Job). is_none (place_in v k.file k.copy)) js can.1) can.0

-- nor is that of a job among those to which the jobs behind it are added
pub back_apart : (v : Table) (n : ℕ) (d : Job) (jobs copies now : List Job) → 0 < n → n ≤ length jobs → CanFail copies jobs → now ≡ added_copies (jobs_unplaced v (drop n jobs)) copies
    → has_copy (slice_index_or jobs (n - 1) d).file (slice_index_or jobs (n - 1) d).copy now ≡ false
back_apart v n d jobs copies now some top can added = first_apart v (slice_index_or jobs (n - 1) d) (drop n jobs) copies now (subst (CanFail copies) (behind jobs n d some top) (fail_drop copies (n - 1) jobs can)) added
