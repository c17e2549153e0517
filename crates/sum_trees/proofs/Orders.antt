-- Items in order.
use Rattle.std.proofs.Common.{◌≡◌, ◌∙◌, ◌+◌, ℕ, List, [], ◌∷◌, ◌++◌, length, Some, None, Bool, true, false, ◌||◌, ◌⊎◌, inl, inr, refl, ap, arith}
use Rattle.std.specs.Prelude.{◌==◌, not, filter, if◌then◌else◌}
use Rattle.sum_trees.specs.Nodes.{Entry, has_place, AreApart, items_of}
use Rattle.sum_trees.specs.Order.{GoesFirst, IsSorted, inserted, placed, is_like, unlike, has_like, first_of}
use Rattle.sum_trees.proofs.Places.{neither, not_left, not_right}

-- the two rules of an order
pub record IsOrder {T : Type 0} (b : T → T → Bool) : Type 0 where
  pub one_way : (x y : T) → b x y ≡ true → b y x ≡ false
  pub splits : (x y z : T) → b x z ≡ true → (b x y || b y z) ≡ true

pub clash : {b : Bool} → b ≡ false → b ≡ true → ⊥
clash e f = cc

pub either : (a b : Bool) → (a || b) ≡ true → (a ≡ true) ⊎ (b ≡ true)
either true b e = inl refl
either false b e = inr e

pub is_no : (a : Bool) → (a ≡ true → ⊥) → a ≡ false
is_no true f = absurd (f refl)
is_no false f = refl

pub leads : {T : Type 0} {b : T → T → Bool} → IsOrder b → (x y z : T) → b x y ≡ true → b y z ≡ true → b x z ≡ true
leads {b = b} o x y z e f =
    elim (either (b x z) (b z y) (o.splits x z y e)) [ inl h ↦ h | inr h ↦ absurd (clash (o.one_way y z f) h) ]

-- ---- parts of items in order

pub first_in : {T : Type 0} (b : T → T → Bool) (x : T) (xs ys : List T) → GoesFirst b x (xs ++ ys) → GoesFirst b x xs
first_in b x [] ys g = tt
first_in b x (y ∷ xs) ys g = (g.0, first_in b x xs ys g.1)

pub first_on : {T : Type 0} (b : T → T → Bool) (x : T) (xs ys : List T) → GoesFirst b x (xs ++ ys) → GoesFirst b x ys
first_on b x [] ys g = g
first_on b x (y ∷ xs) ys g = first_on b x xs ys g.1

pub sorted_low : {T : Type 0} (b : T → T → Bool) (xs ys : List T) → IsSorted b (xs ++ ys) → IsSorted b xs
sorted_low b [] ys s = tt
sorted_low b (x ∷ xs) ys s = (first_in b x xs ys s.0, sorted_low b xs ys s.1)

pub sorted_high : {T : Type 0} (b : T → T → Bool) (xs ys : List T) → IsSorted b (xs ++ ys) → IsSorted b ys
sorted_high b [] ys s = s
sorted_high b (x ∷ xs) ys s = sorted_high b xs ys s.1

-- each item comes before this one
abbrev pub GoesLast : {T : Type 0} → (T → T → Bool) → List T → T → Type 0
GoesLast b [] y = Unit {0}
GoesLast b (x ∷ xs) y = (b x y ≡ true) × GoesLast b xs y

pub sorted_last : {T : Type 0} (b : T → T → Bool) (xs : List T) (y : T) (ys : List T) → IsSorted b (xs ++ y ∷ ys) → GoesLast b xs y
sorted_last b [] y ys s = tt
sorted_last b (x ∷ xs) y ys s = ((first_on b x xs (y ∷ ys) s.0).0, sorted_last b xs y ys s.1)

-- ---- an item at its place

pub placed_low : {T : Type 0} (b : T → T → Bool) (e : Entry T) (low : List (Entry T)) (f : Entry T) (high : List (Entry T)) → b e.1 f.1 ≡ true → placed b e (low ++ f ∷ high) ≡ placed b e low ++ f ∷ high
placed_low b e [] f high is = picked (b e.1 f.1) is (e ∷ f ∷ high) (f ∷ placed b e high)
  where
    picked : {A : Type 0} (c : Bool) → c ≡ true → (x y : A) → (if c then x else y) ≡ x
    picked true e x y = refl
    picked false e x y = absurd (cc)
placed_low b e (g ∷ low) f high is =
    elim (b e.1 g.1) as (λ c. (if c then e ∷ g ∷ (low ++ f ∷ high) else g ∷ placed b e (low ++ f ∷ high)) ≡ (if c then e ∷ g ∷ low else g ∷ placed b e low) ++ f ∷ high)
    [ true ↦ refl | false ↦ ap (λ l. g ∷ l) (placed_low b e low f high is) ]

pub unpicked : {A : Type 0} (c : Bool) → c ≡ false → (x y : A) → (if c then x else y) ≡ y
unpicked true e x y = absurd (cc)
unpicked false e x y = refl

pub placed_high : {T : Type 0} {b : T → T → Bool} → IsOrder b → (e : Entry T) (low : List (Entry T)) (f : Entry T) (high : List (Entry T))
    → b e.1 f.1 ≡ false → GoesLast b (items_of low) f.1 → placed b e (low ++ f ∷ high) ≡ low ++ f ∷ placed b e high
placed_high {b = b} o e [] f high out s = unpicked (b e.1 f.1) out (e ∷ f ∷ high) (f ∷ placed b e high)
placed_high {b = b} o e (g ∷ low) f high out s =
    unpicked (b e.1 g.1) (is_no _ (λ h. clash out (leads o e.1 g.1 f.1 h s.0))) _ _
    ∙ ap (λ l. g ∷ l) (placed_high o e low f high out s.1)

pub placed_has : {T : Type 0} (b : T → T → Bool) (j : ℕ) (e : Entry T) (es : List (Entry T)) → has_place j (placed b e es) ≡ (e.0 == j || has_place j es)
placed_has b j e [] = refl
placed_has b j e (f ∷ fs) =
    elim (b e.1 f.1) as (λ c. has_place j (if c then e ∷ f ∷ fs else f ∷ placed b e fs) ≡ (e.0 == j || (f.0 == j || has_place j fs)))
    [ true ↦ refl | false ↦ ap (λ t. f.0 == j || t) (placed_has b j e fs) ∙ swap (f.0 == j) (e.0 == j) (has_place j fs) ]
  where
    swap : (a c d : Bool) → (a || (c || d)) ≡ (c || (a || d))
    swap true true d = refl
    swap true false d = refl
    swap false c d = refl

pub placed_length : {T : Type 0} (b : T → T → Bool) (e : Entry T) (es : List (Entry T)) → length (placed b e es) ≡ length es + 1
placed_length b e [] = omega arith
placed_length b e (f ∷ fs) =
    elim (b e.1 f.1) as (λ c. length (if c then e ∷ f ∷ fs else f ∷ placed b e fs) ≡ length (f ∷ fs) + 1)
    [ true ↦ omega arith | false ↦ omega (arith, placed_length b e fs) ]

pub placed_apart : {T : Type 0} (b : T → T → Bool) (e : Entry T) (es : List (Entry T)) → AreApart (e ∷ es) → AreApart (placed b e es)
placed_apart b e [] a = a
placed_apart b e (f ∷ fs) a =
    elim (b e.1 f.1) as (λ c. AreApart (if c then e ∷ f ∷ fs else f ∷ placed b e fs)) [
      | true ↦ a
      | false ↦ (placed_has b f.0 e fs ∙ neither _ _ (turned f.0 e.0 (not_left _ _ a.0)) a.1.0, placed_apart b e fs (not_right _ _ a.0, a.1.1))
    ]
  where
    turned : (j k : ℕ) → (j == k) ≡ false → (k == j) ≡ false
    turned j k h = is_no _ (λ is. clash h (flip k j is))
      where
        flip : (k j : ℕ) → (k == j) ≡ true → (j == k) ≡ true
        flip k j is = grind arith

pub placed_items : {T : Type 0} (b : T → T → Bool) (e : Entry T) (es : List (Entry T)) → items_of (placed b e es) ≡ inserted b e.1 (items_of es)
placed_items b e [] = refl
placed_items b e (f ∷ fs) =
    elim (b e.1 f.1) as (λ c. items_of (if c then e ∷ f ∷ fs else f ∷ placed b e fs) ≡ (if c then e.1 ∷ f.1 ∷ items_of fs else f.1 ∷ inserted b e.1 (items_of fs)))
    [ true ↦ refl | false ↦ ap (λ l. f.1 ∷ l) (placed_items b e fs) ]

-- ---- items like one

pub like_parts : (a c : Bool) → not (a || c) ≡ true → (a ≡ false) × (c ≡ false)
like_parts true c e = absurd (cc)
like_parts false true e = absurd (cc)
like_parts false false e = (refl, refl)

not_like_of : (a c : Bool) → a ≡ true → not (a || c) ≡ false
not_like_of true c e = refl
not_like_of false c e = absurd (cc)

not_like_by : (a c : Bool) → c ≡ true → not (a || c) ≡ false
not_like_by true c e = refl
not_like_by false c e = ap not e

pub like_is : (a c : Bool) → a ≡ false → c ≡ false → not (a || c) ≡ true
like_is true c e f = absurd (cc)
like_is false c e f = ap not f

-- what comes before an item that is like this one is not like this one
pub low_not_like : {T : Type 0} {b : T → T → Bool} → IsOrder b → (x y z : T) → is_like b x y ≡ true → b z y ≡ true → is_like b x z ≡ false
low_not_like {b = b} o x y z l e =
    let p = like_parts (b x y) (b y x) l in
    not_like_by (b x z) (b z x) (elim (either (b z x) (b x y) (o.splits z x y e)) [ inl h ↦ h | inr h ↦ absurd (clash p.0 h) ])

pub high_not_like : {T : Type 0} {b : T → T → Bool} → IsOrder b → (x y z : T) → is_like b x y ≡ true → b y z ≡ true → is_like b x z ≡ false
high_not_like {b = b} o x y z l e =
    let p = like_parts (b x y) (b y x) l in
    not_like_of (b x z) (b z x) (elim (either (b y x) (b x z) (o.splits y x z e)) [ inl h ↦ absurd (clash p.1 h) | inr h ↦ h ])

keep_step : {A : Type 0} (c : Bool) (y : A) (xs ys : List A) → c ≡ true → xs ≡ ys → (if c then y ∷ xs else xs) ≡ y ∷ ys
keep_step true y xs ys e f = ap (λ l. y ∷ l) f
keep_step false y xs ys e f = absurd (cc)

pub unlike_first : {T : Type 0} {b : T → T → Bool} → IsOrder b → (x y : T) (zs : List T) → is_like b x y ≡ true → GoesFirst b y zs → unlike b x zs ≡ zs
unlike_first o x y [] l g = refl
unlike_first {b = b} o x y (z ∷ zs) l g = keep_step (not (is_like b x z)) z (unlike b x zs) zs (ap not (high_not_like o x y z l g.0)) (unlike_first o x y zs l g.1)

pub unlike_cut : {T : Type 0} {b : T → T → Bool} → IsOrder b → (x : T) (low : List T) (y : T) (high : List T) → is_like b x y ≡ true → IsSorted b (low ++ y ∷ high) → unlike b x (low ++ y ∷ high) ≡ low ++ high
unlike_cut {b = b} o x [] y high l s = unpicked (not (is_like b x y)) (ap not l) _ _ ∙ unlike_first o x y high l s.0
unlike_cut {b = b} o x (z ∷ low) y high l s =
    keep_step (not (is_like b x z)) z _ (low ++ high) (ap not (low_not_like o x y z l (first_on b z low (y ∷ high) s.0).0)) (unlike_cut o x low y high l s.1)

pub unlike_none : {T : Type 0} (b : T → T → Bool) (x : T) (ys : List T) → has_like b x ys ≡ false → unlike b x ys ≡ ys
unlike_none b x [] h = refl
unlike_none b x (y ∷ ys) h = keep_step (not (is_like b x y)) y (unlike b x ys) ys (ap not (not_left _ _ h)) (unlike_none b x ys (not_right _ _ h))

pub has_like_at : {T : Type 0} (b : T → T → Bool) (x : T) (low : List T) (y : T) (high : List T) → is_like b x y ≡ true → has_like b x (low ++ y ∷ high) ≡ true
has_like_at b x [] y high l = ap (λ t. t || has_like b x high) l
has_like_at b x (z ∷ low) y high l = right_or (is_like b x z) _ (has_like_at b x low y high l)
  where
    right_or : (a c : Bool) → c ≡ true → (a || c) ≡ true
    right_or true c e = refl
    right_or false c e = e

-- no item is like one where none is on the side to which the order leads
none_before : {T : Type 0} {b : T → T → Bool} → IsOrder b → (x y : T) (zs : List T) → b x y ≡ true → GoesFirst b y zs → has_like b x zs ≡ false
none_before o x y [] e g = refl
none_before {b = b} o x y (z ∷ zs) e g = neither _ _ (not_like_of (b x z) (b z x) (leads o x y z e g.0)) (none_before o x y zs e g.1)

pub none_low : {T : Type 0} {b : T → T → Bool} → IsOrder b → (x : T) (low : List T) (y : T) (high : List T) → b x y ≡ true → has_like b x low ≡ false → IsSorted b (low ++ y ∷ high) → has_like b x (low ++ y ∷ high) ≡ false
none_low {b = b} o x [] y high e n s = neither _ _ (not_like_of (b x y) (b y x) e) (none_before o x y high e s.0)
none_low o x (z ∷ low) y high e n s = neither _ _ (not_left _ _ n) (none_low o x low y high e (not_right _ _ n) s.1)

pub none_high : {T : Type 0} {b : T → T → Bool} → IsOrder b → (x : T) (low : List T) (y : T) (high : List T) → b y x ≡ true → has_like b x high ≡ false → IsSorted b (low ++ y ∷ high) → has_like b x (low ++ y ∷ high) ≡ false
none_high {b = b} o x [] y high e n s = neither _ _ (not_like_by (b x y) (b y x) e) n
none_high {b = b} o x (z ∷ low) y high e n s =
    neither _ _ (not_like_by (b x z) (b z x) (leads o z y x (first_on b z low (y ∷ high) s.0).0 e)) (none_high o x low y high e n s.1)

-- ---- an item stays in order

goes_inserted : {T : Type 0} (b : T → T → Bool) (z x : T) (ys : List T) → b z x ≡ true → GoesFirst b z ys → GoesFirst b z (inserted b x ys)
goes_inserted b z x [] e g = (e, tt)
goes_inserted b z x (y ∷ ys) e g = elim (b x y) as (λ c. GoesFirst b z (if c then x ∷ y ∷ ys else y ∷ inserted b x ys)) [ true ↦ (e, g) | false ↦ (g.0, goes_inserted b z x ys e g.1) ]

goes_before_all : {T : Type 0} {b : T → T → Bool} → IsOrder b → (x y : T) (ys : List T) → b x y ≡ true → GoesFirst b y ys → GoesFirst b x ys
goes_before_all o x y [] e g = tt
goes_before_all o x y (z ∷ ys) e g = (leads o x y z e g.0, goes_before_all o x y ys e g.1)

pub inserted_sorted : {T : Type 0} {b : T → T → Bool} → IsOrder b → (x : T) (ys : List T) → has_like b x ys ≡ false → IsSorted b ys → IsSorted b (inserted b x ys)
inserted_sorted o x [] n s = (tt, tt)
inserted_sorted {b = b} o x (y ∷ ys) n s =
    elim (b x y) as (λ c. b x y ≡ c → IsSorted b (if c then x ∷ y ∷ ys else y ∷ inserted b x ys)) [
      | true ↦ λ e. ((e, goes_before_all o x y ys e s.0), s)
      | false ↦ λ e. (goes_inserted b y x ys (other (b x y) (b y x) (not_left _ _ n) e) s.0, inserted_sorted o x ys (not_right _ _ n) s.1)
    ] refl
  where
    other : (a c : Bool) → not (a || c) ≡ false → a ≡ false → c ≡ true
    other true c e f = absurd (cc)
    other false true e f = refl
    other false false e f = absurd (cc)

like_goes : {T : Type 0} {b : T → T → Bool} → IsOrder b → (x y z : T) → is_like b x y ≡ true → b y z ≡ true → b x z ≡ true
like_goes {b = b} o x y z l e =
    let p = like_parts (b x y) (b y x) l in
    elim (either (b y x) (b x z) (o.splits y x z e)) [ inl h ↦ absurd (clash p.1 h) | inr h ↦ h ]

pub like_goes_first : {T : Type 0} {b : T → T → Bool} → IsOrder b → (x y : T) (zs : List T) → is_like b x y ≡ true → GoesFirst b y zs → GoesFirst b x zs
like_goes_first o x y [] l g = tt
like_goes_first o x y (z ∷ zs) l g = (like_goes o x y z l g.0, like_goes_first o x y zs l g.1)

goes_unlike : {T : Type 0} (b : T → T → Bool) (z x : T) (ys : List T) → GoesFirst b z ys → GoesFirst b z (unlike b x ys)
goes_unlike b z x [] g = tt
goes_unlike b z x (y ∷ ys) g = elim (not (is_like b x y)) as (λ c. GoesFirst b z (if c then y ∷ unlike b x ys else unlike b x ys)) [ true ↦ (g.0, goes_unlike b z x ys g.1) | false ↦ goes_unlike b z x ys g.1 ]

pub unlike_sorted : {T : Type 0} (b : T → T → Bool) (x : T) (ys : List T) → IsSorted b ys → IsSorted b (unlike b x ys)
unlike_sorted b x [] s = tt
unlike_sorted b x (y ∷ ys) s = elim (not (is_like b x y)) as (λ c. IsSorted b (if c then y ∷ unlike b x ys else unlike b x ys)) [ true ↦ (goes_unlike b y x ys s.0, unlike_sorted b x ys s.1) | false ↦ unlike_sorted b x ys s.1 ]

-- ---- the first that passes a test

-- what comes behind an item that passes passes too
abbrev pub IsRising : {T : Type 0} → (T → T → Bool) → (T → Bool) → Type 0
IsRising {T = T} b p = (y z : T) → b y z ≡ true → p y ≡ true → p z ≡ true

pub rising_after : {T : Type 0} {b : T → T → Bool} → IsOrder b → (x : T) → IsRising b (b x)
rising_after o x y z e f = leads o x y z f e

pub rising_from : {T : Type 0} {b : T → T → Bool} → IsOrder b → (x : T) → IsRising b (λ y. not (b y x))
rising_from {b = b} o x y z e f = is_yes (b z x) (λ h. clash (unsaid (b y x) f) (leads o y z x e h))
  where
    unsaid : (a : Bool) → not a ≡ true → a ≡ false
    unsaid true h = absurd (cc)
    unsaid false h = refl

    is_yes : (a : Bool) → (a ≡ true → ⊥) → not a ≡ true
    is_yes true f = absurd (f refl)
    is_yes false f = refl

pub first_low : {T : Type 0} (p : T → Bool) (low : List T) (y : T) (high : List T) → p y ≡ true
    → (first_of (filter p low) ≡ None → first_of (filter p (low ++ y ∷ high)) ≡ Some y) × ((z : T) → first_of (filter p low) ≡ Some z → first_of (filter p (low ++ y ∷ high)) ≡ Some z)
first_low p [] y high e = (λ n. ap first_of (keep_step (p y) y (filter p high) (filter p high) e refl), λ z n. absurd (cc))
first_low p (w ∷ low) y high e =
    let q = first_low p low y high e in
    elim (p w) as (λ c. (first_of (if c then w ∷ filter p low else filter p low) ≡ None → first_of (if c then w ∷ filter p (low ++ y ∷ high) else filter p (low ++ y ∷ high)) ≡ Some y)
    × ((z : _) → first_of (if c then w ∷ filter p low else filter p low) ≡ Some z → first_of (if c then w ∷ filter p (low ++ y ∷ high) else filter p (low ++ y ∷ high)) ≡ Some z))
    [ true ↦ (λ n. absurd (cc), λ z n. n) | false ↦ q ]

pub first_high : {T : Type 0} {b : T → T → Bool} (p : T → Bool) → IsRising b p → (low : List T) (y : T) (high : List T) → p y ≡ false → GoesLast b low y → first_of (filter p (low ++ y ∷ high)) ≡ first_of (filter p high)
first_high p o [] y high e g = ap first_of (unpicked (p y) e (y ∷ filter p high) (filter p high))
first_high p o (z ∷ low) y high e g =
    ap first_of (unpicked (p z) (is_no _ (λ h. clash e (o z y g.0 h))) (z ∷ filter p (low ++ y ∷ high)) (filter p (low ++ y ∷ high))) ∙ first_high p o low y high e g.1

-- what was taken out is not there
pub unlike_gone : {T : Type 0} (b : T → T → Bool) (x : T) (ys : List T) → has_like b x (unlike b x ys) ≡ false
unlike_gone b x [] = refl
unlike_gone b x (y ∷ ys) =
    elim (is_like b x y)
    as (λ c. is_like b x y ≡ c → has_like b x (if not c then y ∷ unlike b x ys else unlike b x ys) ≡ false) [
      | true ↦ λ is. unlike_gone b x ys
      | false ↦ λ is. neither _ _ is (unlike_gone b x ys)
    ]
    refl
