-- What the trees tell of the copies on a tape.
use Rattle.std.proofs.Common.{◌≡◌, ◌∙◌, ◌+◌, ◌<◌, ◌≤◌, ◌^◌, ◌⊎◌, inl, inr, ℕ, zero, suc, List, [], ◌∷◌, ◌++◌, length, Some, None, Bool, true, false, refl, sym, ap, subst, arith}
use Rattle.std.specs.Prelude.{◌==◌, if◌then◌else◌, map, filter, not, nat_lt, min}
use Rattle.std.proofs.lemmas.Bool.{eqb-true, eq-eqb}
use Rattle.std.proofs.lemmas.Bool.Decides.{nat_tests}
use Rattle.std.proofs.lemmas.List.Elements.{filter-append}
use Rattle.part_model.specs.declared.space.Placed.{Placed}
use Rattle.part_model.specs.Tapes.{AreDistinct}
use Rattle.sum_trees.specs.Sums as trees
use Rattle.sum_trees.specs.Order.{IsSorted, GoesFirst, first_of}
use Rattle.sum_trees.specs.Forests.{items_in}
use Rattle.sum_trees.proofs.Orders.{first_on}
use Rattle.tape_table.specs.declared.live.LiveCopy.{LiveCopy}
use Rattle.tape_table.specs.Counts.{live_before, count_joined}
use Rattle.tape_table.specs.Indexed.{placed_at, placed_from}
use Rattle.tape_table.specs.Live.{IsLiveFrom}
use Rattle.tape_table.proofs.Added.{is_no}
use Rattle.tape_table.proofs.Trees.{stands, told_there}

-- ---- how many

abbrev on : ℕ → Placed → Bool
on n p = p.place.tape == n

here : (t : ℕ) (xs : List LiveCopy) → filter (on t) (map (placed_at t) xs) ≡ map (placed_at t) xs
here t [] = refl
here t (x ∷ xs) = (λ i. if eq-eqb t t refl i then placed_at t x ∷ here t xs i else here t xs i)

away : (t n : ℕ) (xs : List LiveCopy) → (t == n) ≡ false → filter (on n) (map (placed_at t) xs) ≡ []
away t n [] e = refl
away t n (x ∷ xs) e = (λ i. if e i then placed_at t x ∷ away t n xs e i else away t n xs e i)

differs : (t n : ℕ) → n < t → (t == n) ≡ false
differs t n less = is_no (t == n) (λ e. let same : t ≡ n = eqb-true t n e in omega arith)

differs_up : (t n : ℕ) → t < n → (t == n) ≡ false
differs_up t n less = is_no (t == n) (λ e. let same : t ≡ n = eqb-true t n e in omega arith)

beyond : (trees : List (List LiveCopy)) (t n : ℕ) → n < t → filter (on n) (placed_from t trees) ≡ []
beyond [] t n less = refl
beyond (xs ∷ trees) t n less = filter-append (on n) (map (placed_at t) xs) (placed_from (suc t) trees) ∙ (λ i. away t n xs (differs t n less) i ++ beyond trees (suc t) n (omega arith) i)

lengths : (t : ℕ) (xs : List LiveCopy) → length (map (placed_at t) xs ++ []) ≡ length xs
lengths t [] = refl
lengths t (x ∷ xs) = ap suc (lengths t xs)

pub count_on : (trees : List (List LiveCopy)) (t k n : ℕ) → t + k ≡ n → length (filter (on n) (placed_from t trees)) ≡ length (items_in trees k)
count_on [] t k n e = refl
count_on (xs ∷ trees) t zero n e =
    let same : t ≡ n = omega arith in
    subst (λ m. length (filter (on m) (placed_from t (xs ∷ trees))) ≡ length xs) same
    (ap length (filter-append (on t) (map (placed_at t) xs) (placed_from (suc t) trees)) ∙ (λ i. length (here t xs i ++ beyond trees (suc t) t (omega arith) i)) ∙ lengths t xs)
count_on (xs ∷ trees) t (suc k) n e =
    ap length (filter-append (on n) (map (placed_at t) xs) (placed_from (suc t) trees))
    ∙ (λ i. length (away t n xs (differs_up t n (omega arith)) i ++ filter (on n) (placed_from (suc t) trees)))
    ∙ count_on trees (suc t) k n (omega arith)

abbrev counts : trees.Sums LiveCopy ℕ
counts = record { own = λ _. 1; joined = count_joined }

counted_from : (x : LiveCopy) (xs : List LiveCopy) → length (x ∷ xs) < 2 ^ 32 → trees.led counts 1 (trees.sum_of counts xs) ≡ length (x ∷ xs)
counted_from x [] few = refl
counted_from x (y ∷ ys) few =
    let few_more : suc (length (y ∷ ys)) < 2 ^ 32 = few in
    let more : trees.led counts 1 (trees.sum_of counts ys) ≡ length (y ∷ ys) = counted_from y ys (omega arith) in
    let all : min (1 + trees.led counts 1 (trees.sum_of counts ys)) 4294967295 ≡ suc (length (y ∷ ys)) = omega arith in
    all

pub counted : (xs : List LiveCopy) (n : ℕ) → length xs < 2 ^ 32 → Some n ≡ trees.sum_of counts xs → n ≡ length xs
counted [] n few e = absurd (cc)
counted (x ∷ xs) n few e = (let same : n ≡ trees.led counts 1 (trees.sum_of counts xs) = cc in same) ∙ counted_from x xs few

pub counted_none : (xs : List LiveCopy) → None ≡ trees.sum_of counts xs → 0 ≡ length xs
counted_none [] e = refl
counted_none (x ∷ xs) e = absurd (cc)

-- ---- the next one

abbrev is_from : ℕ → LiveCopy → Bool
is_from fseq y = not (nat_lt y.fseq fseq)

not_below : (m n : ℕ) → not (nat_lt m n) ≡ true → n ≤ m
not_below m n e = grind (arith, nat_tests)

from_passes : (m n : ℕ) → n ≤ m → not (nat_lt m n) ≡ true
from_passes m n e = grind (arith, nat_tests)

before_less : (m n : ℕ) → nat_lt m n ≡ true → m < n
before_less m n e = grind (arith, nat_tests)

-- the first item that passes a test is one of the items
record FirstAmong (p : LiveCopy → Bool) (xs : List LiveCopy) (y : LiveCopy) : Type 0 where
  low : List LiveCopy
  high : List LiveCopy
  items : xs ≡ low ++ y ∷ high
  passes : p y ≡ true

first_is : (p : LiveCopy → Bool) (xs : List LiveCopy) (y : LiveCopy) → Some y ≡ first_of (filter p xs) → FirstAmong p xs y
first_is p [] y e = absurd (cc)
first_is p (x ∷ xs) y e = by (p x) refl e (λ h. first_is p xs y h)
  where
    by : (a : Bool) → p x ≡ a → Some y ≡ first_of (if a then x ∷ filter p xs else filter p xs) → (Some y ≡ first_of (filter p xs) → FirstAmong p xs y) → FirstAmong p (x ∷ xs) y
    by true t h go = (let same : y ≡ x = cc in record { low = []; high = xs; items = ap (λ (z : LiveCopy). z ∷ xs) (sym same); passes = ap p same ∙ t })
    by false t h go = (let r = go h in record { low = x ∷ r.low; high = r.high; items = ap (λ (l : List LiveCopy). x ∷ l) r.items; passes = r.passes })

head_same : (x z : LiveCopy) (xs zs : List LiveCopy) → x ∷ xs ≡ z ∷ zs → x ≡ z
head_same x z xs zs e = cc

tail_same : (x z : LiveCopy) (xs zs : List LiveCopy) → x ∷ xs ≡ z ∷ zs → xs ≡ zs
tail_same x z xs zs e = cc

-- no item that passes comes before it
first_least : (p : LiveCopy → Bool) (xs low : List LiveCopy) (y q : LiveCopy) (high : List LiveCopy) → IsSorted live_before xs → Some y ≡ first_of (filter p xs) → xs ≡ low ++ q ∷ high → p q ≡ true → (q ≡ y) ⊎ (live_before y q ≡ true)
first_least p [] [] y q high s e is t = absurd (cc)
first_least p [] (l ∷ low) y q high s e is t = absurd (cc)
first_least p (x ∷ xs) [] y q high s e is t = inl (let a : x ≡ q = head_same x q xs high is in let b : p x ≡ true = ap p a ∙ t in sym a ∙ taken (p x) b e)
  where
    taken : (a : Bool) → a ≡ true → Some y ≡ first_of (if a then x ∷ filter p xs else filter p xs) → x ≡ y
    taken true h g = cc
    taken false h g = absurd (cc)
first_least p (x ∷ xs) (l ∷ low) y q high s e is t = by (p x) e (λ h. first_least p xs low y q high s.1 h (tail_same x l xs (low ++ q ∷ high) is) t)
  where
    by : (a : Bool) → Some y ≡ first_of (if a then x ∷ filter p xs else filter p xs) → (Some y ≡ first_of (filter p xs) → (q ≡ y) ⊎ (live_before y q ≡ true)) → (q ≡ y) ⊎ (live_before y q ≡ true)
    by true h go = (let same : y ≡ x = cc in inr (ap (λ (z : LiveCopy). live_before z q) same ∙ (first_on live_before x low (q ∷ high) (subst (GoesFirst live_before x) (tail_same x l xs (low ++ q ∷ high) is) s.0)).0))
    by false h go = go h

none_passes : (p : LiveCopy → Bool) (xs low : List LiveCopy) (q : LiveCopy) (high : List LiveCopy) → None ≡ first_of (filter p xs) → xs ≡ low ++ q ∷ high → p q ≡ true → ⊥
none_passes p [] [] q high e is t = cc
none_passes p [] (l ∷ low) q high e is t = cc
none_passes p (x ∷ xs) [] q high e is t = (let a : x ≡ q = head_same x q xs high is in let b : p x ≡ true = ap p a ∙ t in by (p x) b e)
  where
    by : (a : Bool) → a ≡ true → None ≡ first_of (if a then x ∷ filter p xs else filter p xs) → ⊥
    by true h g = cc
    by false h g = cc
none_passes p (x ∷ xs) (l ∷ low) q high e is t = by (p x) e (λ h. none_passes p xs low q high h (tail_same x l xs (low ++ q ∷ high) is) t)
  where
    by : (a : Bool) → None ≡ first_of (if a then x ∷ filter p xs else filter p xs) → (None ≡ first_of (filter p xs) → ⊥) → ⊥
    by true g go = cc
    by false g go = go g

-- a live copy of a tape stands in its tree
record StandsOn (trees : List (List LiveCopy)) (tape fseq : ℕ) (q : Placed) : Type 0 where
  item : LiveCopy
  is : q ≡ placed_at tape item
  low : List LiveCopy
  high : List LiveCopy
  items : items_in trees tape ≡ low ++ item ∷ high
  behind : is_from fseq item ≡ true

same_placed : (q : Placed) (tape : ℕ) → q.place.copy ≡ q.copy → q.place.tape ≡ tape → q ≡ placed_at tape (record { fseq = q.place.fseq; file = q.file; copy = q.copy })
same_placed q tape ec et = (λ i. record { file = q.file; copy = q.copy; place = record { copy = ec i; tape = et i; fseq = q.place.fseq } })

stands_on : (trees : List (List LiveCopy)) (tape fseq : ℕ) (q : Placed) → IsLiveFrom (placed_from 0 trees) tape fseq q → StandsOn trees tape fseq q
stands_on trees tape fseq q l =
    let s = stands trees 0 q.file q.copy q.place l.placed in
    let same : s.tree ≡ tape = (let h : 0 + s.tree ≡ q.place.tape = s.its_tape in let k : q.place.tape ≡ tape = l.there in omega arith) in
    record { item = record { fseq = q.place.fseq; file = q.file; copy = q.copy }; is = same_placed q tape s.its_copy l.there; low = s.low; high = s.high; items = ap (λ n. items_in trees n) (sym same) ∙ s.items; behind = from_passes q.place.fseq fseq l.behind }

pub next_none : (trees : List (List LiveCopy)) (ps : List Placed) (tape fseq : ℕ) → placed_from 0 trees ≡ ps → None ≡ first_of (filter (is_from fseq) (items_in trees tape)) → (q : Placed) → IsLiveFrom ps tape fseq q → ⊥
next_none trees ps tape fseq view e q l =
    let s = stands_on trees tape fseq q (subst (λ w. IsLiveFrom w tape fseq q) (sym view) l) in
    none_passes (is_from fseq) (items_in trees tape) s.low s.item s.high e s.items s.behind

pub next_some : (trees : List (List LiveCopy)) (ps : List Placed) (tape fseq : ℕ) (y : LiveCopy) (r : Placed) → placed_from 0 trees ≡ ps → AreDistinct (placed_from 0 trees) → tape < length trees → IsSorted live_before (items_in trees tape) → r ≡ placed_at tape y
    → Some y ≡ first_of (filter (is_from fseq) (items_in trees tape)) → IsLiveFrom ps tape fseq r × ((q : Placed) → IsLiveFrom ps tape fseq q → (q ≡ r) ⊎ (r.place.fseq < q.place.fseq))
next_some trees ps tape fseq y r view d within sorted is e = (subst (IsLiveFrom ps tape fseq) (sym is) live, λ q l. subst (λ (w : Placed). (q ≡ w) ⊎ (w.place.fseq < q.place.fseq)) (sym is) (least q l))
  where
    f : FirstAmong (is_from fseq) (items_in trees tape) y
    f = first_is (is_from fseq) (items_in trees tape) y e

    live : IsLiveFrom ps tape fseq (placed_at tape y)
    live = subst (λ w. IsLiveFrom w tape fseq (placed_at tape y)) view (record { placed = told_there trees 0 tape tape y f.low f.high (omega arith) within f.items d; there = refl; behind = not_below y.fseq fseq f.passes })

    least : (q : Placed) → IsLiveFrom ps tape fseq q → (q ≡ placed_at tape y) ⊎ (y.fseq < q.place.fseq)
    least q l =
        let s = stands_on trees tape fseq q (subst (λ w. IsLiveFrom w tape fseq q) (sym view) l) in
        elim (first_least (is_from fseq) (items_in trees tape) s.low y s.item s.high sorted e s.items s.behind) [
          | inl same ↦ inl (s.is ∙ ap (placed_at tape) same)
          | inr less ↦ inr (subst (λ (w : Placed). y.fseq < w.place.fseq) (sym s.is) (before_less y.fseq s.item.fseq less))
        ]

-- ---- a tape that is not there

none_in : (trees : List (List LiveCopy)) (k : ℕ) → length trees ≤ k → items_in trees k ≡ []
none_in [] k least = refl
none_in (xs ∷ trees) zero least = absurd (omega arith)
none_in (xs ∷ trees) (suc k) least = none_in trees k (omega arith)

pub live_beyond : (trees : List (List LiveCopy)) (tape : ℕ) → length trees ≤ tape → 0 ≡ length (filter (on tape) (placed_from 0 trees))
live_beyond trees tape least = sym (count_on trees 0 tape tape (omega arith) ∙ ap length (none_in trees tape least))

pub next_beyond : (trees : List (List LiveCopy)) (tape fseq : ℕ) → length trees ≤ tape → (q : Placed) → IsLiveFrom (placed_from 0 trees) tape fseq q → ⊥
next_beyond trees tape fseq least q l =
    let s = stands trees 0 q.file q.copy q.place l.placed in
    let same : 0 + s.tree ≡ q.place.tape = s.its_tape in
    let there : q.place.tape ≡ tape = l.there in
    let within : s.tree < length trees = s.within in
    omega arith
