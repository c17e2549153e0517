-- The order of candidates by their numbers.
use Rattle.std.proofs.Common.{◌≡◌, ℕ, ◌<◌, ◌≤◌, ◌⊎◌, inl, inr, Bool, true, false, ◌&&◌, ◌||◌, refl, ap, arith}
use Rattle.std.specs.Prelude.{◌==◌, nat_lt}
use Rattle.std.proofs.lemmas.Bool.{and_parts, eq-eqb, eqb-true, false_from_ne_true, ltb-false, ltb-true, or_cases, or_parts}
use Rattle.std.proofs.lemmas.Bool.Decides.{eqb_tells}
use Rattle.cta_model.specs.declared.asks.Direction.{Direction}
use Rattle.cta_model.specs.declared.asks.Direction.TheVariants as direction
use Rattle.cta_model.specs.declared.states.Candidate.{Candidate}
use Rattle.cta_model.specs.Mounts.{same_direction}
use Rattle.cta_model.specs.Choice.{goes_before, goes_first}
use Rattle.part_answers.specs.First.{RankAlike}

-- a direction as a number
abbrev way : Direction → ℕ
way direction.Archive = 0
way direction.Retrieve = 1

first_ways : (d e : Direction) → goes_first d e ≡ true → way d < way e
first_ways direction.Archive direction.Archive y = absurd (cc)
first_ways direction.Archive direction.Retrieve y = omega arith
first_ways direction.Retrieve direction.Archive y = absurd (cc)
first_ways direction.Retrieve direction.Retrieve y = absurd (cc)

later_ways : (d e : Direction) → goes_first d e ≡ false → way e ≤ way d
later_ways direction.Archive direction.Archive n = omega arith
later_ways direction.Archive direction.Retrieve n = absurd (cc)
later_ways direction.Retrieve direction.Archive n = omega arith
later_ways direction.Retrieve direction.Retrieve n = omega arith

same_ways : (d e : Direction) → same_direction d e ≡ true → way d ≡ way e
same_ways direction.Archive direction.Archive y = refl
same_ways direction.Archive direction.Retrieve y = absurd (cc)
same_ways direction.Retrieve direction.Archive y = absurd (cc)
same_ways direction.Retrieve direction.Retrieve y = refl

ways_same : (d e : Direction) → way d ≡ way e → same_direction d e ≡ true
ways_same direction.Archive direction.Archive e = refl
ways_same direction.Archive direction.Retrieve e = absurd (omega arith)
ways_same direction.Retrieve direction.Archive e = absurd (omega arith)
ways_same direction.Retrieve direction.Retrieve e = refl

-- one way has one number
one_way : (d e : Direction) → way d ≡ way e → d ≡ e
one_way direction.Archive direction.Archive e = refl
one_way direction.Archive direction.Retrieve e = absurd (omega arith)
one_way direction.Retrieve direction.Archive e = absurd (omega arith)
one_way direction.Retrieve direction.Retrieve e = refl

-- the first difference is one for which a goes before b
pub Before : Candidate → Candidate → Type 0
Before a b =
    (b.priority < a.priority)
    ⊎ ((a.priority ≡ b.priority) × ((way a.direction < way b.direction)
    ⊎ ((way a.direction ≡ way b.direction) × ((a.birth < b.birth)
    ⊎ ((a.birth ≡ b.birth) × (a.key < b.key))))))

-- there is no difference, or the first one is one for which b goes before a
pub NotBefore : Candidate → Candidate → Type 0
NotBefore a b =
    (a.priority < b.priority)
    ⊎ ((a.priority ≡ b.priority) × ((way b.direction < way a.direction)
    ⊎ ((way a.direction ≡ way b.direction) × ((b.birth < a.birth)
    ⊎ ((a.birth ≡ b.birth) × (b.key ≤ a.key))))))

key_part : (b c k l : ℕ) → (nat_lt b c || (b == c && nat_lt k l)) ≡ true → (b < c) ⊎ ((b ≡ c) × (k < l))
key_part b c k l y =
    elim (or_cases (nat_lt b c) (b == c && nat_lt k l) y) [
      | inl less ↦ inl (ltb-true b c less)
      | inr both ↦ (let parts = and_parts (b == c) (nat_lt k l) both in inr (eqb-true b c parts.0, ltb-true k l parts.1))
    ]

way_part : (d e : Direction) (b c k l : ℕ) → (goes_first d e || (same_direction d e && (nat_lt b c || (b == c && nat_lt k l)))) ≡ true
    → (way d < way e) ⊎ ((way d ≡ way e) × ((b < c) ⊎ ((b ≡ c) × (k < l))))
way_part d e b c k l y =
    let tail = nat_lt b c || (b == c && nat_lt k l) in
    elim (or_cases (goes_first d e) (same_direction d e && tail) y) [
      | inl first ↦ inl (first_ways d e first)
      | inr both ↦ (let parts = and_parts (same_direction d e) tail both in inr (same_ways d e parts.0, key_part b c k l parts.1))
    ]

pub before_is : (a b : Candidate) → goes_before a b ≡ true → Before a b
unfolding Before
before_is a b y =
    let tail = goes_first a.direction b.direction || (same_direction a.direction b.direction && (nat_lt a.birth b.birth || (a.birth == b.birth && nat_lt a.key b.key))) in
    elim (or_cases (nat_lt b.priority a.priority) (a.priority == b.priority && tail) y) [
      | inl more ↦ inl (ltb-true b.priority a.priority more)
      | inr both ↦
          let parts = and_parts (a.priority == b.priority) tail both in
          inr (eqb-true a.priority b.priority parts.0, way_part a.direction b.direction a.birth b.birth a.key b.key parts.1)
    ]

-- two numbers are the same, with what holds then, or the second is less
same_or_less : (m n : ℕ) (P : Type 0) → n ≤ m → (m ≡ n → P) → (n < m) ⊎ ((m ≡ n) × P)
same_or_less m n P low then_is =
    elim (eqb_tells m n) [ inl holds ↦ inr (holds.1, then_is holds.1) | inr fails ↦ (let apart = fails.1 in inl (omega arith)) ]

-- where the first of two holds and not both, the second does not
second_false : (x y : Bool) → x ≡ true → (x && y) ≡ false → y ≡ false
second_false true y is fails = fails
second_false false y is fails = absurd (cc)

key_not : (b c k l : ℕ) → (nat_lt b c || (b == c && nat_lt k l)) ≡ false → (c < b) ⊎ ((b ≡ c) × (l ≤ k))
key_not b c k l n =
    let parts = or_parts (nat_lt b c) (b == c && nat_lt k l) n in
    same_or_less b c (l ≤ k) (ltb-false b c parts.0) (λ same. ltb-false k l (second_false (b == c) (nat_lt k l) (eq-eqb b c same) parts.1))

way_not : (d e : Direction) (b c k l : ℕ) → (goes_first d e || (same_direction d e && (nat_lt b c || (b == c && nat_lt k l)))) ≡ false
    → (way e < way d) ⊎ ((way d ≡ way e) × ((c < b) ⊎ ((b ≡ c) × (l ≤ k))))
way_not d e b c k l n =
    let tail = nat_lt b c || (b == c && nat_lt k l) in
    let parts = or_parts (goes_first d e) (same_direction d e && tail) n in
    same_or_less (way d) (way e) ((c < b) ⊎ ((b ≡ c) × (l ≤ k))) (later_ways d e parts.0) (λ same. key_not b c k l (second_false (same_direction d e) tail (ways_same d e same) parts.1))

pub before_not : (a b : Candidate) → goes_before a b ≡ false → NotBefore a b
unfolding NotBefore
before_not a b n =
    let tail = goes_first a.direction b.direction || (same_direction a.direction b.direction && (nat_lt a.birth b.birth || (a.birth == b.birth && nat_lt a.key b.key))) in
    let parts = or_parts (nat_lt b.priority a.priority) (a.priority == b.priority && tail) n in
    let low : a.priority ≤ b.priority = ltb-false b.priority a.priority parts.0 in
    elim (eqb_tells a.priority b.priority) [
      | inl holds ↦ inr (holds.1, way_not a.direction b.direction a.birth b.birth a.key b.key (second_false (a.priority == b.priority) tail holds.0 parts.1))
      | inr fails ↦ (let apart = fails.1 in inl (omega arith))
    ]

-- of two neither of which goes before the other, all that the rule looks at is the same
pub are_alike : (a b : Candidate) → goes_before a b ≡ false → goes_before b a ≡ false → RankAlike a b
unfolding NotBefore
are_alike a b n m =
    let one = before_not a b n in
    let other = before_not b a m in
    let same : way a.direction ≡ way b.direction = omega arith in
    record { priority = omega arith; direction = one_way a.direction b.direction same; birth = omega arith; key = omega arith }

-- neither of two that are alike goes before the other
pub alike_not : (a b : Candidate) → RankAlike a b → goes_before a b ≡ false
unfolding Before
alike_not a b alike =
    false_from_ne_true (goes_before a b) (λ y.
    let before = before_is a b y in
    let same : way a.direction ≡ way b.direction = ap way alike.direction in
    omega (arith, alike.priority, alike.birth, alike.key))

-- of two one at most goes before the other
pub one_before : (a b : Candidate) → goes_before a b ≡ true → goes_before b a ≡ false
unfolding Before
one_before a b y = false_from_ne_true (goes_before b a) (λ z. (let one = before_is a b y in let other = before_is b a z in omega arith))

-- what goes before a candidate that is not behind another goes not before that other
pub not_through : (c d x : Candidate) → goes_before d c ≡ false → goes_before c x ≡ false → goes_before d x ≡ false
unfolding Before NotBefore
not_through c d x n m =
    false_from_ne_true (goes_before d x) (λ y.
    let one = before_not d c n in
    let other = before_not c x m in
    let before = before_is d x y in
    omega arith)
