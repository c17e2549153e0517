-- The order of lines and the sums that are kept of them, with their laws.
use Rattle.std.specs.Prelude.{ℕ, zero, suc, ◌≡◌, ◌<◌, ◌≤◌, ◌+◌, Bool, true, false, ◌||◌, min, max, refl}
use Rattle.std.proofs.Common.{arith}
use Rattle.cta_model.specs.declared.asks.Job.{Job}
use Rattle.part_model.specs.Order.{goes_before}
use Rattle.job_queues.specs.declared.queued.Queued.{Queued}
use Rattle.job_queues.specs.declared.queued.Totals.{Totals}

-- a line comes before another where its job does
abbrev pub queued_before : Queued → Queued → Bool
queued_before a b = goes_before a.job b.job

-- what one line makes
abbrev pub own_totals : Queued → Totals
own_totals q = record { files = 1; bytes = q.len; least = q.len; priority = q.priority; age = q.age }

-- what the lines of two totals make together, counts standing still at their greatest number
abbrev pub both_totals : Totals → Totals → Totals
both_totals a b = record {
  files = min (a.files + b.files) 4294967295;
  bytes = min (a.bytes + b.bytes) 18446744073709551615;
  least = min a.least b.least;
  priority = max a.priority b.priority;
  age = min a.age b.age;
}

-- totals are the same in any grouping
pub totals_join : (a b c : Totals) → both_totals (both_totals a b) c ≡ both_totals a (both_totals b c)
totals_join a b c =
    let files : min (min (a.files + b.files) 4294967295 + c.files) 4294967295 ≡ min (a.files + min (b.files + c.files) 4294967295) 4294967295 = omega arith in
    let bytes : min (min (a.bytes + b.bytes) 18446744073709551615 + c.bytes) 18446744073709551615 ≡ min (a.bytes + min (b.bytes + c.bytes) 18446744073709551615) 18446744073709551615 = omega arith in
    let least : min (min a.least b.least) c.least ≡ min a.least (min b.least c.least) = omega arith in
    let priority : max (max a.priority b.priority) c.priority ≡ max a.priority (max b.priority c.priority) = omega arith in
    let age : min (min a.age b.age) c.age ≡ min a.age (min b.age c.age) = omega arith in
    λ i. record { files = files i; bytes = bytes i; least = least i; priority = priority i; age = age i }

-- of two jobs one at most comes first
pub before_one_way : (a b : Job) → goes_before a b ≡ true → goes_before b a ≡ false
before_one_way a b e = grind arith

-- three ways of two numbers
pub data Way (x y : ℕ) : Type 0 where
  Below : x < y → Way x y
  Level : x ≡ y → Way x y
  Above : y < x → Way x y

way_more : (x y : ℕ) → Way x y → Way (suc x) (suc y)
way_more x y (Below h) = Below (omega arith)
way_more x y (Level h) = Level (omega arith)
way_more x y (Above h) = Above (omega arith)

pub way : (x y : ℕ) → Way x y
way zero zero = Level refl
way zero (suc y) = Below (omega arith)
way (suc x) zero = Above (omega arith)
way (suc x) (suc y) = way_more x y (way x y)

first_or : (a b : Bool) → a ≡ true → (a || b) ≡ true
first_or true b e = refl
first_or false b e = absurd (cc)

last_or : (a b : Bool) → b ≡ true → (a || b) ≡ true
last_or true b e = refl
last_or false b e = e

by_birth : (a b : Job) → a.birth < b.birth → goes_before a b ≡ true
by_birth a b p = grind arith

by_file : (a b : Job) → a.birth ≡ b.birth → a.file < b.file → goes_before a b ≡ true
by_file a b p q = grind arith

by_copy : (a b : Job) → a.birth ≡ b.birth → a.file ≡ b.file → a.copy < b.copy → goes_before a b ≡ true
by_copy a b p q r = grind arith

birth_most : (a c : Job) → goes_before a c ≡ true → a.birth ≤ c.birth
birth_most a c e = grind arith

file_most : (a c : Job) → goes_before a c ≡ true → a.birth ≡ c.birth → a.file ≤ c.file
file_most a c e p = grind arith

copy_most : (a c : Job) → goes_before a c ≡ true → a.birth ≡ c.birth → a.file ≡ c.file → a.copy < c.copy
copy_most a c e p q = grind arith

split_copy : (a b c : Job) → goes_before a c ≡ true → a.birth ≡ b.birth → a.file ≡ b.file → (goes_before a b || goes_before b c) ≡ true
split_copy a b c e p q =
    elim (way b.birth c.birth) [
      | Below h ↦ last_or _ _ (by_birth b c h)
      | Level h ↦ elim (way b.file c.file) [
        | Below k ↦ last_or _ _ (by_file b c h k)
        | Level k ↦ (let less : a.copy < c.copy = copy_most a c e (omega arith) (omega arith) in
            elim (way a.copy b.copy) [
              | Below n ↦ first_or _ _ (by_copy a b p q n)
              | Level n ↦ last_or _ _ (by_copy b c h k (omega arith))
              | Above n ↦ last_or _ _ (by_copy b c h k (omega arith))
            ])
        | Above k ↦ absurd (let most : a.file ≤ c.file = file_most a c e (omega arith) in omega arith)
      ]
      | Above h ↦ absurd (let most : a.birth ≤ c.birth = birth_most a c e in omega arith)
    ]

split_file : (a b c : Job) → goes_before a c ≡ true → a.birth ≡ b.birth → b.file < a.file → (goes_before a b || goes_before b c) ≡ true
split_file a b c e p q =
    elim (way b.birth c.birth) [
      | Below h ↦ last_or _ _ (by_birth b c h)
      | Level h ↦ (let most : a.file ≤ c.file = file_most a c e (omega arith) in last_or _ _ (by_file b c h (omega arith)))
      | Above h ↦ absurd (let most : a.birth ≤ c.birth = birth_most a c e in omega arith)
    ]

-- a job between two others comes behind the first or before the second
pub before_splits : (a b c : Job) → goes_before a c ≡ true → (goes_before a b || goes_before b c) ≡ true
before_splits a b c e =
    elim (way a.birth b.birth) [
      | Below h ↦ first_or _ _ (by_birth a b h)
      | Level h ↦ elim (way a.file b.file) [
        | Below k ↦ first_or _ _ (by_file a b h k)
        | Level k ↦ split_copy a b c e h k
        | Above k ↦ split_file a b c e h k
      ]
      | Above h ↦ (let most : a.birth ≤ c.birth = birth_most a c e in last_or _ _ (by_birth b c (omega arith)))
    ]
