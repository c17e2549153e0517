-- Laws of the order of live items.
use Rattle.std.specs.Prelude.{ℕ, ◌≡◌, ◌<◌, ◌≤◌, ◌==◌, Bool, true, false, ◌||◌, ◌&&◌, nat_lt, refl}
use Rattle.std.proofs.Common.{arith, ◌∙◌, sym}
use Rattle.job_queues.specs.Laws.{way, Below, Level, Above, before_one_way, before_splits}
use Rattle.part_model.specs.Order.{goes_before}
use Rattle.repack_book.specs.declared.items.LiveItem.{LiveItem}
use Rattle.repack_book.specs.Order.{item_before, item_numbers}

first_or : (a b : Bool) → a ≡ true → (a || b) ≡ true
first_or true b e = refl
first_or false b e = absurd (cc)

last_or : (a b : Bool) → b ≡ true → (a || b) ≡ true
last_or true b e = refl
last_or false b e = e

by_tape : (a b : LiveItem) → a.tape < b.tape → item_before a b ≡ true
by_tape a b p = grind arith

tape_most : (a c : LiveItem) → item_before a c ≡ true → a.tape ≤ c.tape
tape_most a c e = grind arith

numbers_first : (a c : LiveItem) → item_before a c ≡ true → a.tape ≡ c.tape → goes_before (item_numbers a) (item_numbers c) ≡ true
numbers_first a c e p = by (nat_lt a.tape c.tape) (a.tape == c.tape) (goes_before (item_numbers a) (item_numbers c)) (below_none a.tape c.tape p) e
  where
    below_none : (x y : ℕ) → x ≡ y → nat_lt x y ≡ false
    below_none x y p = grind arith

    by : (l s g : Bool) → l ≡ false → (l || (s && g)) ≡ true → g ≡ true
    by true s g f h = absurd (cc)
    by false true g f h = h
    by false false g f h = absurd (cc)

by_numbers : (a b : LiveItem) → a.tape ≡ b.tape → goes_before (item_numbers a) (item_numbers b) ≡ true → item_before a b ≡ true
by_numbers a b p e = by (nat_lt a.tape b.tape) (a.tape == b.tape) (goes_before (item_numbers a) (item_numbers b)) (same a.tape b.tape p) e
  where
    same : (x y : ℕ) → x ≡ y → (x == y) ≡ true
    same x y p = grind arith

    by : (l s g : Bool) → s ≡ true → g ≡ true → (l || (s && g)) ≡ true
    by true s g f h = refl
    by false true g f h = h
    by false false g f h = absurd (cc)

level : (a b c : LiveItem) → a.tape ≡ b.tape → b.tape ≡ c.tape → (goes_before (item_numbers a) (item_numbers b) || goes_before (item_numbers b) (item_numbers c)) ≡ true → (item_before a b || item_before b c) ≡ true
level a b c p q e = by (goes_before (item_numbers a) (item_numbers b)) refl e
  where
    by : (g : Bool) → goes_before (item_numbers a) (item_numbers b) ≡ g → (g || goes_before (item_numbers b) (item_numbers c)) ≡ true → (item_before a b || item_before b c) ≡ true
    by true f h = first_or _ _ (by_numbers a b p f)
    by false f h = last_or _ _ (by_numbers b c q h)

not_above : (x y : LiveItem) → y.tape < x.tape → item_before x y ≡ false
not_above x y h = apart (nat_lt x.tape y.tape) (x.tape == y.tape) (goes_before (item_numbers x) (item_numbers y)) (grind arith) (grind arith)
  where
    apart : (l s g : Bool) → l ≡ false → s ≡ false → (l || (s && g)) ≡ false
    apart true s g e f = absurd (cc)
    apart false true g e f = absurd (cc)
    apart false false g e f = refl

not_level : (x y : LiveItem) → x.tape ≡ y.tape → goes_before (item_numbers x) (item_numbers y) ≡ false → item_before x y ≡ false
not_level x y p f = by (nat_lt x.tape y.tape) (x.tape == y.tape) (goes_before (item_numbers x) (item_numbers y)) (below_none x.tape y.tape p) f
  where
    below_none : (m n : ℕ) → m ≡ n → nat_lt m n ≡ false
    below_none m n p = grind arith

    by : (l s g : Bool) → l ≡ false → g ≡ false → (l || (s && g)) ≡ false
    by true s g e f = absurd (cc)
    by false true g e f = f
    by false false g e f = refl

-- of two items one at most comes first
pub item_one_way : (a b : LiveItem) → item_before a b ≡ true → item_before b a ≡ false
item_one_way a b e =
    elim (way a.tape b.tape) [
      | Below h ↦ not_above b a h
      | Level h ↦ not_level b a (sym h) (before_one_way (item_numbers a) (item_numbers b) (numbers_first a b e h))
      | Above h ↦ absurd (let most : a.tape ≤ b.tape = tape_most a b e in omega arith)
    ]

-- an item between two others comes behind the first or before the second
pub item_splits : (a b c : LiveItem) → item_before a c ≡ true → (item_before a b || item_before b c) ≡ true
item_splits a b c e =
    elim (way a.tape b.tape) [
      | Below h ↦ first_or _ _ (by_tape a b h)
      | Level h ↦ elim (way b.tape c.tape) [
        | Below k ↦ last_or _ _ (by_tape b c k)
        | Level k ↦ level a b c h k (before_splits (item_numbers a) (item_numbers b) (item_numbers c) (numbers_first a c e (h ∙ k)))
        | Above k ↦ absurd (let most : a.tape ≤ c.tape = tape_most a c e in omega arith)
      ]
      | Above h ↦ (let most : a.tape ≤ c.tape = tape_most a c e in last_or _ _ (by_tape b c (omega arith)))
    ]
