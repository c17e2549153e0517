-- What is told of items in order after the calls of their tree, by tests.
use Rattle.std.proofs.Common.{◌≡◌, ◌∙◌, ◌⊎◌, inl, inr, ◌<◌, ◌≤◌, ◌+◌, ℕ, List, [], ◌∷◌, length, Some, None, Bool, true, false, ◌||◌, refl, sym, ap, subst, arith}
use Rattle.std.specs.Prelude.{◌==◌, ◌&&◌, not, filter, if◌then◌else◌, nat_lt}
use Rattle.std.specs.List.{list_any}
use Rattle.std.proofs.Math.ListN.{set}
use Rattle.std.proofs.lemmas.Bool.{eqb-true, eq-eqb}
use Rattle.cta_model.specs.Mounts.{same_job}
use Rattle.part_model.specs.Order.{goes_before}
use Rattle.sum_trees.specs.Order.{GoesFirst, IsSorted, inserted, unlike, is_like, has_like, first_of, first_after, first_from}
use Rattle.sum_trees.specs.Forests.{items_in}
use Rattle.sum_trees.proofs.Stands.{set_here}
use Rattle.job_queues.specs.Laws.{way, Below, Level, Above, before_one_way}
use Rattle.job_queues.proofs.Lines.{same_unordered}
use Rattle.repack_book.specs.declared.items.LiveItem.{LiveItem}
use Rattle.repack_book.specs.declared.holders.Holder.{Holder}
use Rattle.repack_book.specs.Order.{item_before, item_numbers, holder_before, holder_numbers, is_item, has_item, is_holder, has_holder}
use Rattle.repack_book.specs.Laws.{item_one_way}
use Rattle.repack_book.specs.Walks.{IsFirstFrom}

pub clash : {b : Bool} → b ≡ true → b ≡ false → ⊥
clash e f = cc

swap : (a b c : Bool) → (a || (b || c)) ≡ (b || (a || c))
swap true true c = refl
swap true false c = refl
swap false b c = refl

-- ---- any order

pub any_inserted : {T : Type 0} (b : T → T → Bool) (p : T → Bool) (x : T) (ys : List T) → list_any p (inserted b x ys) ≡ (p x || list_any p ys)
any_inserted b p x [] = refl
any_inserted b p x (y ∷ ys) =
    elim (b x y) as (λ c. list_any p (if c then x ∷ y ∷ ys else y ∷ inserted b x ys) ≡ (p x || (p y || list_any p ys)))
    [ true ↦ refl | false ↦ ap (λ t. p y || t) (any_inserted b p x ys) ∙ swap (p y) (p x) (list_any p ys) ]

twice : (a c : Bool) → (a || c) ≡ (a || (a || c))
twice true c = refl
twice false c = refl

-- an item that is there already adds nothing
any_there : {T : Type 0} (b : T → T → Bool) (p : T → Bool) (x : T) → ((y : T) → is_like b x y ≡ true → x ≡ y) → (ys : List T) → has_like b x ys ≡ true → list_any p ys ≡ (p x || list_any p ys)
any_there b p x alike [] h = absurd (clash h refl)
any_there b p x alike (y ∷ ys) h = step (is_like b x y) (has_like b x ys) (list_any p ys) (alike y) (any_there b p x alike ys) h
  where
    step : (l k r : Bool) → (l ≡ true → x ≡ y) → (k ≡ true → r ≡ (p x || r)) → (l || k) ≡ true → (p y || r) ≡ (p x || (p y || r))
    step true k r same ih h = ap (λ a. a || r) (ap p (sym (same refl))) ∙ twice (p x) r ∙ ap (λ a. p x || (a || r)) (ap p (same refl))
    step false k r same ih h = ap (λ a. p y || a) (ih h) ∙ swap (p y) (p x) r

unlike_step : {T : Type 0} (p : T → Bool) (x y : T) (us ys : List T) (l px py : Bool) → p y ≡ py → (l ≡ true → py ≡ px) → (px ≡ true → py ≡ true → l ≡ true) → list_any p us ≡ (not px && list_any p ys)
    → list_any p (if not l then y ∷ us else us) ≡ (not px && (py || list_any p ys))
unlike_step p x y us ys true true true e same single ih = ih
unlike_step p x y us ys true true false e same single ih = ih
unlike_step p x y us ys true false true e same single ih = (let bad : true ≡ false = same refl in absurd (cc))
unlike_step p x y us ys true false false e same single ih = ih
unlike_step p x y us ys false true true e same single ih = (let bad : false ≡ true = single refl refl in absurd (cc))
unlike_step p x y us ys false true false e same single ih = ap (λ t. t || list_any p us) e ∙ ih
unlike_step p x y us ys false false true e same single ih = ap (λ t. t || list_any p us) e
unlike_step p x y us ys false false false e same single ih = ap (λ t. t || list_any p us) e ∙ ih

pub any_unlike : {T : Type 0} (b : T → T → Bool) (p : T → Bool) (x : T) → ((y : T) → is_like b x y ≡ true → x ≡ y) → ((y : T) → p x ≡ true → p y ≡ true → is_like b x y ≡ true)
    → (ys : List T) → list_any p (unlike b x ys) ≡ (not (p x) && list_any p ys)
any_unlike b p x alike single [] = none (p x)
  where
    none : (c : Bool) → false ≡ (not c && false)
    none true = refl
    none false = refl
any_unlike b p x alike single (y ∷ ys) =
    unlike_step p x y (unlike b x ys) ys (is_like b x y) (p x) (p y) refl (λ l. ap p (sym (alike y l))) (single y) (any_unlike b p x alike single ys)

-- the first of those that pass a test
pub found : {T : Type 0} (p q : T → Bool) (ys : List T) (r : T) → Some r ≡ first_of (filter p ys) → q r ≡ true → (p r ≡ true) × (list_any q ys ≡ true)
found p q [] r e h = absurd (cc)
found p q (y ∷ ys) r e h = by (p y) refl e (λ f. found p q ys r f h)
  where
    last : (a c : Bool) → c ≡ true → (a || c) ≡ true
    last true c e = refl
    last false c e = e

    by : (c : Bool) → p y ≡ c → Some r ≡ first_of (if c then y ∷ filter p ys else filter p ys) → (Some r ≡ first_of (filter p ys) → (p r ≡ true) × (list_any q ys ≡ true)) → (p r ≡ true) × ((q y || list_any q ys) ≡ true)
    by true ey f ih = (let same : r ≡ y = cc in (ap p same ∙ ey, ap (λ t. t || list_any q ys) (ap q (sym same) ∙ h)))
    by false ey f ih = (let rest : (p r ≡ true) × (list_any q ys ≡ true) = ih f in (rest.0, last (q y) (list_any q ys) rest.1))

-- an item that passes a test, where one does
pub record Passing {T : Type 0} (p q : T → Bool) : Type 0 where
  pub one : T
  pub passes : q one ≡ true
  pub fails : p one ≡ false

pub missed : {T : Type 0} (p q : T → Bool) (ys : List T) → None ≡ first_of (filter p ys) → list_any q ys ≡ true → Passing p q
missed p q [] e h = absurd (cc)
missed p q (y ∷ ys) e h = by (p y) refl e (q y) refl (λ f k. missed p q ys f k)
  where
    rest : (a c : Bool) → a ≡ false → (a || c) ≡ true → c ≡ true
    rest true c e f = absurd (cc)
    rest false c e f = f

    by : (c : Bool) → p y ≡ c → None ≡ first_of (if c then y ∷ filter p ys else filter p ys) → (d : Bool) → q y ≡ d → (None ≡ first_of (filter p ys) → list_any q ys ≡ true → Passing p q) → Passing p q
    by true ey f d ed ih = absurd (cc)
    by false ey f true ed ih = record { one = y; passes = ed; fails = ey }
    by false ey f false ed ih = ih f (rest (q y) (list_any q ys) ed h)

-- an item that passes a test, and either fails the other or is not before the first that passes it
pub record NotBefore {T : Type 0} (b : T → T → Bool) (p q : T → Bool) (r : T) : Type 0 where
  pub one : T
  pub passes : q one ≡ true
  pub where_is : (p one ≡ false) ⊎ (b one r ≡ false)

-- an item that passes a test and is not before this one
record Later {T : Type 0} (b : T → T → Bool) (q : T → Bool) (r : T) : Type 0 where
  one : T
  passes : q one ≡ true
  later : b one r ≡ false

rest_any : (a c : Bool) → a ≡ false → (a || c) ≡ true → c ≡ true
rest_any true c e f = absurd (cc)
rest_any false c e f = f

goes : {T : Type 0} (b : T → T → Bool) (q : T → Bool) (y : T) (ys : List T) → ((x z : T) → b x z ≡ true → b z x ≡ false) → GoesFirst b y ys → list_any q ys ≡ true → Later b q y
goes b q y [] one_way g h = absurd (cc)
goes b q y (z ∷ zs) one_way g h = by (q z) refl (λ k. goes b q y zs one_way g.1 k)
  where
    by : (d : Bool) → q z ≡ d → (list_any q zs ≡ true → Later b q y) → Later b q y
    by true ed ih = record { one = z; passes = ed; later = one_way y z g.0 }
    by false ed ih = ih (rest_any (q z) (list_any q zs) ed h)

irreflexive : {T : Type 0} (b : T → T → Bool) → ((x z : T) → b x z ≡ true → b z x ≡ false) → (y : T) → b y y ≡ false
irreflexive b one_way y = by (b y y) refl
  where
    by : (c : Bool) → b y y ≡ c → b y y ≡ false
    by true k = one_way y y k
    by false k = k

pub least : {T : Type 0} (b : T → T → Bool) (p q : T → Bool) → ((x z : T) → b x z ≡ true → b z x ≡ false) → (ys : List T) (r : T) → IsSorted b ys → Some r ≡ first_of (filter p ys) → list_any q ys ≡ true → NotBefore b p q r
least b p q one_way [] r s e h = absurd (cc)
least b p q one_way (y ∷ ys) r s e h = by (p y) refl e (q y) refl (λ f k. least b p q one_way ys r s.1 f k)
  where
    by : (c : Bool) → p y ≡ c → Some r ≡ first_of (if c then y ∷ filter p ys else filter p ys) → (d : Bool) → q y ≡ d → (Some r ≡ first_of (filter p ys) → list_any q ys ≡ true → NotBefore b p q r) → NotBefore b p q r
    by true ey f true ed ih = (let same : r ≡ y = cc in record { one = y; passes = ed; where_is = inr (ap (b y) same ∙ irreflexive b one_way y) })
    by true ey f false ed ih = (let same : r ≡ y = cc in let w : Later b q y = goes b q y ys one_way s.0 (rest_any (q y) (list_any q ys) ed h) in record { one = w.one; passes = w.passes; where_is = inr (ap (b w.one) same ∙ w.later) })
    by false ey f true ed ih = record { one = y; passes = ed; where_is = inl ey }
    by false ey f false ed ih = ih f (rest_any (q y) (list_any q ys) ed h)

-- ---- live items

and_left : (a c : Bool) → (a && c) ≡ true → a ≡ true
and_left true c e = refl
and_left false c e = absurd (cc)

and_right : (a c : Bool) → (a && c) ≡ true → c ≡ true
and_right true c e = e
and_right false c e = absurd (cc)

pub and_both : (a c : Bool) → a ≡ true → c ≡ true → (a && c) ≡ true
and_both true c e f = f
and_both false c e f = absurd (cc)

neither_left : (a c : Bool) → not (a || c) ≡ true → a ≡ false
neither_left true c e = absurd (cc)
neither_left false c e = refl

neither_right : (a c : Bool) → not (a || c) ≡ true → c ≡ false
neither_right true c e = absurd (cc)
neither_right false c e = none c e
  where
    none : (c : Bool) → not c ≡ true → c ≡ false
    none true e = absurd (cc)
    none false e = refl

not_either : (a c : Bool) → a ≡ false → c ≡ false → not (a || c) ≡ true
not_either true c e f = absurd (cc)
not_either false c e f = ap not f

pub tape_first : (x y : LiveItem) → x.tape < y.tape → item_before x y ≡ true
tape_first x y h = grind arith

numbers_not : (x y : LiveItem) → x.tape ≡ y.tape → item_before x y ≡ false → goes_before (item_numbers x) (item_numbers y) ≡ false
numbers_not x y e f = by (nat_lt x.tape y.tape) (x.tape == y.tape) (goes_before (item_numbers x) (item_numbers y)) (eq-eqb x.tape y.tape e) f
  where
    by : (l s g : Bool) → s ≡ true → (l || (s && g)) ≡ false → g ≡ false
    by true s g h k = absurd (cc)
    by false true g h k = k
    by false false g h k = absurd (cc)

numbers_same : (x y : LiveItem) → x.tape ≡ y.tape → same_job (item_numbers x) (item_numbers y) ≡ true → x ≡ y
numbers_same x y e s =
    let repack : x.repack ≡ y.repack = eqb-true _ _ (and_left (x.repack == y.repack) _ s) in
    let rest : (x.file == y.file && x.copy == y.copy) ≡ true = and_right (x.repack == y.repack) _ s in
    let file : x.file ≡ y.file = eqb-true _ _ (and_left (x.file == y.file) _ rest) in
    let copy : x.copy ≡ y.copy = eqb-true _ _ (and_right (x.file == y.file) _ rest) in
    λ i. record { tape = e i; repack = repack i; file = file i; copy = copy i }

pub item_alike : (x y : LiveItem) → is_like item_before x y ≡ true → x ≡ y
item_alike x y l =
    elim (way x.tape y.tape) [
      | Below h ↦ absurd (clash (tape_first x y h) (neither_left (item_before x y) (item_before y x) l))
      | Level h ↦ numbers_same x y h (sym (same_unordered (item_numbers x) (item_numbers y)) ∙ not_either _ _ (numbers_not x y h (neither_left (item_before x y) (item_before y x) l)) (numbers_not y x (sym h) (neither_right (item_before x y) (item_before y x) l)))
      | Above h ↦ absurd (clash (tape_first y x h) (neither_right (item_before x y) (item_before y x) l))
    ]

-- the item of these numbers
pub item_is : (t r f c : ℕ) (x : LiveItem) → is_item t r f c x ≡ true → record { tape = t; repack = r; file = f; copy = c } ≡ x
item_is t r f c x e =
    let one : (t == x.tape && r == x.repack) ≡ true = and_left (t == x.tape && r == x.repack) _ e in
    let two : (f == x.file && c == x.copy) ≡ true = and_right (t == x.tape && r == x.repack) _ e in
    let tape : t ≡ x.tape = eqb-true _ _ (and_left (t == x.tape) _ one) in
    let repack : r ≡ x.repack = eqb-true _ _ (and_right (t == x.tape) _ one) in
    let file : f ≡ x.file = eqb-true _ _ (and_left (f == x.file) _ two) in
    let copy : c ≡ x.copy = eqb-true _ _ (and_right (f == x.file) _ two) in
    λ i. record { tape = tape i; repack = repack i; file = file i; copy = copy i }

like_itself : {T : Type 0} (b : T → T → Bool) → ((x z : T) → b x z ≡ true → b z x ≡ false) → (x : T) → is_like b x x ≡ true
like_itself b one_way x = not_either (b x x) (b x x) (never (b x x) refl) (never (b x x) refl)
  where
    never : (c : Bool) → b x x ≡ c → b x x ≡ false
    never true k = one_way x x k
    never false k = k

item_single : (t r f c : ℕ) (x y : LiveItem) → is_item t r f c x ≡ true → is_item t r f c y ≡ true → is_like item_before x y ≡ true
item_single t r f c x y e g =
    (let same : x ≡ y = sym (item_is t r f c x e) ∙ item_is t r f c y g in
    subst (λ (z : LiveItem). is_like item_before x z ≡ true) same (like_itself item_before item_one_way x))

one_tree : {T : Type 0} (trees now : List (List T)) (ys : List T) → length trees ≡ 1 → now ≡ set trees 0 ys → items_in now 0 ≡ ys
one_tree trees now ys one e = ap (λ l. items_in l 0) e ∙ set_here trees 0 ys [] (omega arith)

pub item_taken : (trees now : List (List LiveItem)) (x : LiveItem) → length trees ≡ 1 → now ≡ set trees 0 (unlike item_before x (items_in trees 0))
    → (t r f c : ℕ) → has_item (items_in now 0) t r f c ≡ (not (is_item t r f c x) && has_item (items_in trees 0) t r f c)
item_taken trees now x one e t r f c =
    ap (list_any (is_item t r f c)) (one_tree trees now _ one e) ∙ any_unlike item_before (is_item t r f c) x (item_alike x) (item_single t r f c x) (items_in trees 0)

pub item_added : (trees now : List (List LiveItem)) (x : LiveItem) → length trees ≡ 1 → now ≡ set trees 0 (inserted item_before x (items_in trees 0))
    → (t r f c : ℕ) → has_item (items_in now 0) t r f c ≡ (is_item t r f c x || has_item (items_in trees 0) t r f c)
item_added trees now x one e t r f c = ap (list_any (is_item t r f c)) (one_tree trees now _ one e) ∙ any_inserted item_before (is_item t r f c) x (items_in trees 0)

pub item_there : (xs : List LiveItem) (x : LiveItem) → has_like item_before x xs ≡ true → (t r f c : ℕ) → has_item xs t r f c ≡ (is_item t r f c x || has_item xs t r f c)
item_there xs x h t r f c = any_there item_before (is_item t r f c) x (item_alike x) xs h

-- ---- the first item of a tape

flip_nat : (x y : ℕ) → (x == y) ≡ (y == x)
flip_nat x y = grind arith

pub not_yes : (a : Bool) → not a ≡ true → a ≡ false
not_yes true e = absurd (cc)
not_yes false e = refl

pub not_no : (a : Bool) → not a ≡ false → a ≡ true
not_no true e = refl
not_no false e = absurd (cc)

is_false : (a : Bool) → (a ≡ true → ⊥) → a ≡ false
is_false true f = absurd (f refl)
is_false false f = refl

not_below : (start y : LiveItem) → start.repack ≡ 0 → start.file ≡ 0 → start.copy ≡ 0 → y.tape ≡ start.tape → item_before y start ≡ true → ⊥
not_below start y r f c e h = grind arith

tape_from : (start y : LiveItem) → item_before y start ≡ false → start.tape ≤ y.tape
tape_from start y h = grind arith

-- whether an item is on a tape
abbrev on : ℕ → LiveItem → Bool
on t x = x.tape == t

pub any_some : (xs : List LiveItem) (start first : LiveItem) → start.repack ≡ 0 → start.file ≡ 0 → start.copy ≡ 0 → IsSorted item_before xs → Some first ≡ first_from item_before start xs → (first.tape == start.tape) ≡ list_any (on start.tape) xs
any_some xs start first r f c s e = by (first.tape == start.tape) refl
  where
    other : (first.tape == start.tape) ≡ false → NotBefore item_before (λ y. not (item_before y start)) (on start.tape) first → ⊥
    other ne n =
        (let here : n.one.tape ≡ start.tape = eqb-true _ _ n.passes in
        let low : start.tape ≤ first.tape = tape_from start first (not_yes _ (found (λ y. not (item_before y start)) (λ y. true) xs first e refl).0) in
        let apart : (first.tape ≡ start.tape) → ⊥ = λ k. clash (eq-eqb first.tape start.tape k) ne in
        elim n.where_is [
          | inl h ↦ not_below start n.one r f c here (not_no _ h)
          | inr h ↦ clash (tape_first n.one first (above start.tape first.tape n.one.tape low apart here)) h
        ])
      where
        above : (a x y : ℕ) → a ≤ x → ((x ≡ a) → ⊥) → y ≡ a → y < x
        above a x y le ne k = omega arith

    by : (d : Bool) → (first.tape == start.tape) ≡ d → d ≡ list_any (on start.tape) xs
    by true k = sym (found (λ y. not (item_before y start)) (on start.tape) xs first e k).1
    by false k = sym (is_false _ (λ h. other k (least item_before (λ y. not (item_before y start)) (on start.tape) item_one_way xs first s e h)))

pub any_none : (xs : List LiveItem) (start : LiveItem) → start.repack ≡ 0 → start.file ≡ 0 → start.copy ≡ 0 → None ≡ first_from item_before start xs → false ≡ list_any (on start.tape) xs
any_none xs start r f c e =
    sym (is_false _ (λ h. (let m : Passing (λ y. not (item_before y start)) (on start.tape) = missed (λ y. not (item_before y start)) (on start.tape) xs e h in not_below start m.one r f c (eqb-true _ _ m.passes) (not_no _ m.fails))))

-- ---- holders

pub holder_is : (f c r : ℕ) (x : Holder) → is_holder f c r x ≡ true → record { file = f; copy = c; repack = r } ≡ x
holder_is f c r x e =
    let one : (f == x.file && c == x.copy) ≡ true = and_left (f == x.file && c == x.copy) _ e in
    let file : f ≡ x.file = eqb-true _ _ (and_left (f == x.file) _ one) in
    let copy : c ≡ x.copy = eqb-true _ _ (and_right (f == x.file) _ one) in
    let repack : r ≡ x.repack = eqb-true _ _ (and_right (f == x.file && c == x.copy) _ e) in
    λ i. record { file = file i; copy = copy i; repack = repack i }

holder_one_way : (x y : Holder) → holder_before x y ≡ true → holder_before y x ≡ false
holder_one_way x y e = before_one_way (holder_numbers x) (holder_numbers y) e

pub holder_alike : (x y : Holder) → is_like holder_before x y ≡ true → x ≡ y
holder_alike x y l =
    let s : same_job (holder_numbers x) (holder_numbers y) ≡ true = sym (same_unordered (holder_numbers x) (holder_numbers y)) ∙ l in
    let file : x.file ≡ y.file = eqb-true _ _ (and_left (x.file == y.file) _ s) in
    let rest : (x.copy == y.copy && x.repack == y.repack) ≡ true = and_right (x.file == y.file) _ s in
    let copy : x.copy ≡ y.copy = eqb-true _ _ (and_left (x.copy == y.copy) _ rest) in
    let repack : x.repack ≡ y.repack = eqb-true _ _ (and_right (x.copy == y.copy) _ rest) in
    λ i. record { file = file i; copy = copy i; repack = repack i }

holder_single : (f c r : ℕ) (x y : Holder) → is_holder f c r x ≡ true → is_holder f c r y ≡ true → is_like holder_before x y ≡ true
holder_single f c r x y e g =
    (let same : x ≡ y = sym (holder_is f c r x e) ∙ holder_is f c r y g in
    subst (λ (z : Holder). is_like holder_before x z ≡ true) same (like_itself holder_before holder_one_way x))

pub holder_taken : (trees now : List (List Holder)) (x : Holder) → length trees ≡ 1 → now ≡ set trees 0 (unlike holder_before x (items_in trees 0))
    → (f c r : ℕ) → has_holder (items_in now 0) f c r ≡ (not (is_holder f c r x) && has_holder (items_in trees 0) f c r)
holder_taken trees now x one e f c r =
    ap (list_any (is_holder f c r)) (one_tree trees now _ one e) ∙ any_unlike holder_before (is_holder f c r) x (holder_alike x) (holder_single f c r x) (items_in trees 0)

pub holder_added : (trees now : List (List Holder)) (x : Holder) → length trees ≡ 1 → now ≡ set trees 0 (inserted holder_before x (items_in trees 0))
    → (f c r : ℕ) → has_holder (items_in now 0) f c r ≡ (is_holder f c r x || has_holder (items_in trees 0) f c r)
holder_added trees now x one e f c r = ap (list_any (is_holder f c r)) (one_tree trees now _ one e) ∙ any_inserted holder_before (is_holder f c r) x (items_in trees 0)

pub holder_there : (xs : List Holder) (x : Holder) → has_like holder_before x xs ≡ true → (f c r : ℕ) → has_holder xs f c r ≡ (is_holder f c r x || has_holder xs f c r)
holder_there xs x h f c r = any_there holder_before (is_holder f c r) x (holder_alike x) xs h

-- ---- the next holder of a copy

-- a holder of the copy of another
record OfCopy (s y : Holder) : Type 0 where
  its_file : y.file ≡ s.file
  its_copy : y.copy ≡ s.copy

not_under : (s y : Holder) → OfCopy s y → holder_before y s ≡ false → s.repack ≤ y.repack
not_under s y o h = under s.file s.copy s.repack y.file y.copy y.repack o.its_file o.its_copy h
  where
    under : (sf sc sr yf yc yr : ℕ) → yf ≡ sf → yc ≡ sc → goes_before (record { birth = yf; file = yc; copy = yr }) (record { birth = sf; file = sc; copy = sr }) ≡ false → sr ≤ yr
    under sf sc sr yf yc yr a b h = grind arith

over : (s y : Holder) → OfCopy s y → holder_before s y ≡ true → s.repack < y.repack
over s y o h = grind (arith, o.its_file, o.its_copy)

is_under : (s y : Holder) → OfCopy s y → holder_before y s ≡ true → y.repack < s.repack
is_under s y o h = grind (arith, o.its_file, o.its_copy)

not_over : (s y : Holder) → OfCopy s y → holder_before s y ≡ false → y.repack ≤ s.repack
not_over s y o h = grind (arith, o.its_file, o.its_copy)

file_first : (x y : Holder) → x.file < y.file → holder_before x y ≡ true
file_first x y h = grind arith

copy_first : (x y : Holder) → x.file ≡ y.file → x.copy < y.copy → holder_before x y ≡ true
copy_first x y e h = grind arith

beyond : (s next y : Holder) → OfCopy s y → (next.file == s.file && next.copy == s.copy) ≡ false → holder_before next s ≡ false → holder_before y next ≡ true
beyond s next y o ne h =
    elim (way next.file s.file) [
      | Below k ↦ absurd (clash (file_first next s k) h)
      | Level k ↦ elim (way next.copy s.copy) [
        | Below m ↦ absurd (clash (copy_first next s k m) h)
        | Level m ↦ absurd (clash (and_both (next.file == s.file) (next.copy == s.copy) (eq-eqb _ _ k) (eq-eqb _ _ m)) ne)
        | Above m ↦ copy_first y next (o.its_file ∙ sym k) (subst (λ (n : ℕ). n < next.copy) (sym o.its_copy) m)
      ]
      | Above k ↦ file_first y next (subst (λ (n : ℕ). n < next.file) (sym o.its_file) k)
    ]

of_copy : (s : Holder) (n : ℕ) (y : Holder) → is_holder s.file s.copy n y ≡ true → OfCopy s y
of_copy s n y e = record { its_file = sym (eqb-true _ _ (and_left (s.file == y.file) _ (and_left (s.file == y.file && s.copy == y.copy) _ e))); its_copy = sym (eqb-true _ _ (and_right (s.file == y.file) _ (and_left (s.file == y.file && s.copy == y.copy) _ e))) }

its_repack : (f c n : ℕ) (y : Holder) → is_holder f c n y ≡ true → n ≡ y.repack
its_repack f c n y e = eqb-true _ _ (and_right (f == y.file && c == y.copy) _ e)

here : (s next : Holder) → (next.file == s.file && next.copy == s.copy) ≡ true → is_holder s.file s.copy next.repack next ≡ true
here s next e = and_both _ _ (and_both _ _ (eq-eqb _ _ (sym (eqb-true _ _ (and_left (next.file == s.file) _ e)))) (eq-eqb _ _ (sym (eqb-true _ _ (and_right (next.file == s.file) _ e))))) (eq-eqb next.repack next.repack refl)

as_of_copy : (s next : Holder) → (next.file == s.file && next.copy == s.copy) ≡ true → OfCopy s next
as_of_copy s next e = record { its_file = eqb-true _ _ (and_left (next.file == s.file) _ e); its_copy = eqb-true _ _ (and_right (next.file == s.file) _ e) }

-- the first holder of a copy among those that pass a test, where a holder of the copy passes it exactly from this number on
first_passing : (xs : List Holder) (p : Holder → Bool) (s next : Holder) (from : ℕ)
    → ((y : Holder) → OfCopy s y → p y ≡ true → from ≤ y.repack) → ((y : Holder) → OfCopy s y → p y ≡ false → y.repack < from) → (p next ≡ true → holder_before next s ≡ false)
    → IsSorted holder_before xs → Some next ≡ first_of (filter p xs)
    → IsFirstFrom (has_holder xs s.file s.copy) from (if next.file == s.file && next.copy == s.copy then Some next.repack else None)
first_passing xs p s next from least_is fails behind sorted e = by (next.file == s.file && next.copy == s.copy) refl
  where
    passes : p next ≡ true
    passes = (found p (λ y. true) xs next e refl).0

    later : (n : ℕ) → has_holder xs s.file s.copy n ≡ true → NotBefore holder_before p (is_holder s.file s.copy n) next
    later n h = least holder_before p (is_holder s.file s.copy n) holder_one_way xs next sorted e h

    lower : (n : ℕ) (y : Holder) → is_holder s.file s.copy n y ≡ true → y.repack < from → n < from
    lower n y m h = subst (λ (k : ℕ). k < from) (sym (its_repack s.file s.copy n y m)) h

    same_copy : (next.file == s.file && next.copy == s.copy) ≡ true → (n : ℕ) → from ≤ n → (y : Holder) → is_holder s.file s.copy n y ≡ true → holder_before y next ≡ false → next.repack ≤ n
    same_copy k n low y m h = (let at : next.repack ≤ y.repack = not_under next y (record { its_file = (of_copy s n y m).its_file ∙ sym (as_of_copy s next k).its_file; its_copy = (of_copy s n y m).its_copy ∙ sym (as_of_copy s next k).its_copy }) h in let is : n ≡ y.repack = its_repack s.file s.copy n y m in omega arith)

    by : (d : Bool) → (next.file == s.file && next.copy == s.copy) ≡ d → IsFirstFrom (has_holder xs s.file s.copy) from (if d then Some next.repack else None)
    by true k = (
      (found p (is_holder s.file s.copy next.repack) xs next e (here s next k)).1,
      least_is next (as_of_copy s next k) passes,
      λ n h low. elim (later n h).where_is [
        | inl f ↦ absurd (let under : n < from = lower n (later n h).one (later n h).passes (fails (later n h).one (of_copy s n (later n h).one (later n h).passes) f) in omega arith)
        | inr f ↦ same_copy k n low (later n h).one (later n h).passes f
      ],
    )
    by false k = λ n h. elim (later n h).where_is [
      | inl f ↦ lower n (later n h).one (later n h).passes (fails (later n h).one (of_copy s n (later n h).one (later n h).passes) f)
      | inr f ↦ absurd (clash (beyond s next (later n h).one (of_copy s n (later n h).one (later n h).passes) k (behind passes)) f)
    ]

none_passing : (xs : List Holder) (p : Holder → Bool) (s : Holder) (from : ℕ) → ((y : Holder) → OfCopy s y → p y ≡ false → y.repack < from) → None ≡ first_of (filter p xs) → (n : ℕ) → has_holder xs s.file s.copy n ≡ true → n < from
none_passing xs p s from fails e n h =
    (let m : Passing p (is_holder s.file s.copy n) = missed p (is_holder s.file s.copy n) xs e h in
    subst (λ (k : ℕ). k < from) (sym (its_repack s.file s.copy n m.one m.passes)) (fails m.one (of_copy s n m.one m.passes) m.fails))

-- the holder of the number 0
abbrev start_of : ℕ → ℕ → ℕ → Holder
start_of f c r = record { file = f; copy = c; repack = r }

pub first_some : (xs : List Holder) (f c : ℕ) (next : Holder) → IsSorted holder_before xs → Some next ≡ first_from holder_before (start_of f c 0) xs
    → IsFirstFrom (has_holder xs f c) 0 (if next.file == f && next.copy == c then Some next.repack else None)
first_some xs f c next s e =
    first_passing xs (λ y. not (holder_before y (start_of f c 0))) (start_of f c 0) next 0 (λ y o h. omega arith)
    (λ y o h. absurd (let low : y.repack < 0 = is_under (start_of f c 0) y o (not_no _ h) in omega arith)) (λ h. not_yes _ h) s e

pub first_none : (xs : List Holder) (f c : ℕ) → None ≡ first_from holder_before (start_of f c 0) xs → IsFirstFrom (has_holder xs f c) 0 None
first_none xs f c e = none_passing xs (λ y. not (holder_before y (start_of f c 0))) (start_of f c 0) 0 (λ y o h. is_under (start_of f c 0) y o (not_no _ h)) e

pub after_some : (xs : List Holder) (f c r : ℕ) (next : Holder) → IsSorted holder_before xs → Some next ≡ first_after holder_before (start_of f c r) xs
    → IsFirstFrom (has_holder xs f c) (r + 1) (if next.file == f && next.copy == c then Some next.repack else None)
after_some xs f c r next s e =
    first_passing xs (holder_before (start_of f c r)) (start_of f c r) next (r + 1) (λ y o h. (let up : r < y.repack = over (start_of f c r) y o h in omega arith))
    (λ y o h. (let low : y.repack ≤ r = not_over (start_of f c r) y o h in omega arith)) (λ h. holder_one_way (start_of f c r) next h) s e

pub after_none : (xs : List Holder) (f c r : ℕ) → None ≡ first_after holder_before (start_of f c r) xs → IsFirstFrom (has_holder xs f c) (r + 1) None
after_none xs f c r e = none_passing xs (holder_before (start_of f c r)) (start_of f c r) (r + 1) (λ y o h. (let low : y.repack ≤ r = not_over (start_of f c r) y o h in omega arith)) e
