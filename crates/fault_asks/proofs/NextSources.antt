-- The sources of recalls, one by one.
use Rattle.std.proofs.Common.{◌≡◌, ◌+◌, ◌<◌, ◌≤◌, ℕ, zero, suc, List, [], ◌∷◌, length, refl, arith}
use Rattle.std.specs.Prelude.{◌%◌, Option, Some, None, option_map, is_none, is_some, false, true, map, slice_get}
use Rattle.cta_model.specs.declared.asks.Job.{Job}
use Rattle.cta_model.specs.declared.states.Place.{Place}
use Rattle.cta_model.specs.Tapes.{may_be_read}
use Rattle.part_model.specs.JobBook.{Book}
use Rattle.part_model.specs.Tapes.{Table}
use Rattle.tape_table.specs.Sources.{copies_in, is_whole, or_else, place_if, somes, sources_in}
use Rattle.fault_asks.specs.Reading.{source_in}

tape_there : (o : Option Place) (tape : ℕ) → option_map (λ (p : Place). p.tape) o ≡ Some tape → (p : Place) × (o ≡ Some p) × (p.tape ≡ tape)
tape_there None tape e = absurd (cc)
tape_there (Some p) tape e = (p, refl, (let same : ◌≡◌ {A = Option ℕ} (Some p.tape) (Some tape) = e in cc))

-- the tape of a source has a queue
pub source_low : (v : Table) (b : Book) (j : Job) (n m tape : ℕ) → ((f i : ℕ) (p : Place) → slice_get (sources_in v f) i ≡ Some p → p.tape < n) → m ≡ n → source_in v b j ≡ Some tape → tape < m
source_low v b j n m tape keys same is =
    let p = tape_there (slice_get (sources_in v j.file) (length (b.charges j) % length (sources_in v j.file))) tape is in
    let low : p.0.tape < n = keys j.file _ p.0 p.1 in
    let at : p.0.tape ≡ tape = p.2 in
    omega (arith, low, at, same)

-- ---- how many

none_at : (xs : List Place) (n : ℕ) → is_none (slice_get xs n) ≡ true → length xs ≤ n
none_at [] n e = omega arith
none_at (x ∷ xs) zero e = absurd (cc)
none_at (x ∷ xs) (suc n) e = omega (arith, none_at xs n e)

some_at : (xs : List Place) (n : ℕ) → is_none (slice_get xs n) ≡ false → n < length xs
some_at [] n e = absurd (cc)
some_at (x ∷ xs) zero e = omega arith
some_at (x ∷ xs) (suc n) e = omega (arith, some_at xs n e)

pub none_first : (xs : List Place) → is_none (slice_get xs 0) ≡ true → 0 ≡ length xs
none_first xs e = omega (arith, none_at xs 0 e)

pub none_next : (xs : List Place) (n : ℕ) → is_none (slice_get xs n) ≡ false → is_none (slice_get xs (n + 1)) ≡ true → n + 1 ≡ length xs
none_next xs n some none = omega (arith, some_at xs n some, none_at xs (n + 1) none)

somes_few : (os : List (Option Place)) → length (somes os) ≤ length os
somes_few [] = omega arith
somes_few (None ∷ os) = omega (arith, somes_few os)
somes_few (Some p ∷ os) = omega (arith, somes_few os)

else_few : (xs ys : List Place) → length xs ≤ 4 → length ys ≤ 4 → length (or_else xs ys) ≤ 4
else_few [] ys a b = b
else_few (x ∷ xs) ys a b = a

sources_few : (v : Table) (f : ℕ) → length (sources_in v f) ≤ 4
sources_few v f = else_few (somes (map (place_if may_be_read v) (copies_in v f))) (somes (map (place_if is_whole v) (copies_in v f))) (somes_few (map (place_if may_be_read v) (copies_in v f))) (somes_few (map (place_if is_whole v) (copies_in v f)))

not_none : (o : Option Place) → is_some o ≡ true → is_none o ≡ false
not_none None e = absurd (cc)
not_none (Some p) e = refl

pub all_four : (v : Table) (f : ℕ) → is_some (slice_get (sources_in v f) 3) ≡ true → 4 ≡ length (sources_in v f)
all_four v f some = omega (arith, sources_few v f, some_at (sources_in v f) 3 (not_none (slice_get (sources_in v f) 3) some))

-- where there is no source, there is no tape
pub no_source : (v : Table) (b : Book) (j : Job) → length (sources_in v j.file) ≡ 0 → source_in v b j ≡ None
no_source v b j none = by (sources_in v j.file) (length (b.charges j) % length (sources_in v j.file)) none
  where
    by : (xs : List Place) (n : ℕ) → length xs ≡ 0 → option_map (λ (p : Place). p.tape) (slice_get xs n) ≡ None
    by [] n e = refl
    by (x ∷ xs) n e = absurd (omega (arith, e))
