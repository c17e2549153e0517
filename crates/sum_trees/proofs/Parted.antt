-- What searches by sums tell, and sums of some of the items.
use Rattle.std.proofs.Common.{◌≡◌, ◌∙◌, ℕ, List, [], ◌∷◌, ◌++◌, Option, Some, None, Bool, true, false, ◌||◌, ◌&&◌, refl, sym, ap, append-nil}
use Rattle.std.specs.Prelude.{is_some, not, filter, option_map, if◌then◌else◌}
use Rattle.sum_trees.specs.Sums.{Sums, led, sum_of, own_passes}
use Rattle.sum_trees.specs.Around.{around}
use Rattle.sum_trees.specs.Nodes.{Entry, node_at, sum_at, items_of}
use Rattle.sum_trees.specs.Order.{IsSorted, GoesFirst, has_like, is_like, first_of}
use Rattle.sum_trees.specs.Trees.{IsTree}
use Rattle.sum_trees.specs.Searches.{TellsPassing, TellsSum}
use Rattle.sum_trees.specs.declared.nodes.Node.{Node}
use Rattle.sum_trees.proofs.Standing.{Opened, opens, is_empty, sum_is}
use Rattle.sum_trees.proofs.Forks.{Joins, sum_around}
use Rattle.sum_trees.proofs.Orders.{IsOrder, GoesLast, low_not_like, clash, is_no, leads, unpicked, sorted_low, sorted_high, sorted_last}
use Rattle.sum_trees.proofs.Cuts.{sorted_parts, whole_items}

-- ---- lists that a test parts

filter_append : {T : Type 0} (p : T → Bool) (xs ys : List T) → filter p (xs ++ ys) ≡ filter p xs ++ filter p ys
filter_append p [] ys = refl
filter_append p (x ∷ xs) ys =
    elim (p x) as (λ c. (if c then x ∷ filter p (xs ++ ys) else filter p (xs ++ ys)) ≡ (if c then x ∷ filter p xs else filter p xs) ++ filter p ys)
    [ true ↦ ap (λ l. x ∷ l) (filter_append p xs ys) | false ↦ filter_append p xs ys ]

pub picked : {A : Type 0} (c : Bool) → c ≡ true → (x y : A) → (if c then x else y) ≡ x
picked true e x y = refl
picked false e x y = absurd (clash refl e)

-- two tests agree on what this item comes before
same_first : {T : Type 0} (b : T → T → Bool) (p q : T → Bool) (y : T) (zs : List T) → ((z : T) → b y z ≡ true → p z ≡ q z) → GoesFirst b y zs → filter p zs ≡ filter q zs
same_first b p q y [] f g = refl
same_first b p q y (z ∷ zs) f g = (λ i. if f z g.0 i then z ∷ same_first b p q y zs f g.1 i else same_first b p q y zs f g.1 i)

-- two tests agree on what comes before this item
same_last : {T : Type 0} (b : T → T → Bool) (p q : T → Bool) (y : T) (zs : List T) → ((z : T) → b z y ≡ true → p z ≡ q z) → GoesLast b zs y → filter p zs ≡ filter q zs
same_last b p q y [] f g = refl
same_last b p q y (z ∷ zs) f g = (λ i. if f z g.0 i then z ∷ same_last b p q y zs f g.1 i else same_last b p q y zs f g.1 i)

filter_false : {T : Type 0} (zs : List T) → filter (λ z. false) zs ≡ []
filter_false [] = refl
filter_false (z ∷ zs) = filter_false zs

filter_true : {T : Type 0} (zs : List T) → filter (λ z. true) zs ≡ zs
filter_true [] = refl
filter_true (z ∷ zs) = ap (λ l. z ∷ l) (filter_true zs)

-- ---- a value of the items of a tree that pass a test

abbrev TellsOf : {T S A : Type 0} → Sums T S → (T → T → Bool) → (T → Bool) → (List T → A) → List (Node T S) → ℕ → A → Type 0
TellsOf {T = T} m b p f ns root told = (es : List (Entry T)) → IsTree m ns root es → IsSorted b (items_of es) → told ≡ f (filter p (items_of es))

pub none_there : {T S A : Type 0} (m : Sums T S) (b : T → T → Bool) (p : T → Bool) (f : List T → A) (ns : List (Node T S)) (root : ℕ) → node_at ns root ≡ None → TellsOf m b p f ns root (f [])
none_there m b p f ns root is es t s = sym (ap (λ l. f (filter p (items_of l))) (is_empty t is))

-- the items round that of a node, in order
record Around {T S : Type 0} (m : Sums T S) (b : T → T → Bool) (ns : List (Node T S)) (n : Node T S) (es : List (Entry T)) : Type 0 where
  pub low : List (Entry T)
  pub high : List (Entry T)
  pub left_tree : IsTree m ns n.left low
  pub right_tree : IsTree m ns n.right high
  pub low_sorted : IsSorted b (items_of low)
  pub high_sorted : IsSorted b (items_of high)
  pub last : GoesLast b (items_of low) n.item
  pub first : GoesFirst b n.item (items_of high)
  pub whole : items_of es ≡ items_of low ++ n.item ∷ items_of high

goes_round : {T S : Type 0} (m : Sums T S) (b : T → T → Bool) (ns : List (Node T S)) (root : ℕ) (n : Node T S) (es : List (Entry T)) → node_at ns root ≡ Some n → IsTree m ns root es → IsSorted b (items_of es) → Around m b ns n es
goes_round m b ns root n es is t s =
    let o : Opened m ns root n es = opens n t is in
    let sorted = sorted_parts m b ns root n es o s in
    let high = sorted_high b (items_of o.low) (n.item ∷ items_of o.high) sorted in
    record {
      low = o.low;
      high = o.high;
      left_tree = o.left_tree;
      right_tree = o.right_tree;
      low_sorted = sorted_low b (items_of o.low) _ sorted;
      high_sorted = high.1;
      last = sorted_last b (items_of o.low) n.item (items_of o.high) sorted;
      first = high.0;
      whole = whole_items m ns root n es o;
    }

-- nothing up to the node's item passes
pub only_high : {T S A : Type 0} (m : Sums T S) (b : T → T → Bool) (p : T → Bool) (f : List T → A) (ns : List (Node T S)) (root : ℕ) (n : Node T S) (told : A) → node_at ns root ≡ Some n
    → p n.item ≡ false → ((z : T) → b z n.item ≡ true → p z ≡ false) → TellsOf m b p f ns n.right told → TellsOf m b p f ns root told
only_high m b p f ns root n told is out below g es t s =
    let o = goes_round m b ns root n es is t s in
    g o.high o.right_tree o.high_sorted
    ∙ sym (ap (λ l. f (filter p l)) o.whole
    ∙ ap f (filter_append p (items_of o.low) (n.item ∷ items_of o.high)
    ∙ ap (λ l. l ++ filter p (n.item ∷ items_of o.high)) (same_last b p (λ z. false) n.item (items_of o.low) below o.last ∙ filter_false (items_of o.low))
    ∙ unpicked (p n.item) out (n.item ∷ filter p (items_of o.high)) (filter p (items_of o.high))))

-- nothing from the node's item on passes
pub only_low : {T S A : Type 0} (m : Sums T S) (b : T → T → Bool) (p : T → Bool) (f : List T → A) (ns : List (Node T S)) (root : ℕ) (n : Node T S) (told : A) → node_at ns root ≡ Some n
    → p n.item ≡ false → ((z : T) → b n.item z ≡ true → p z ≡ false) → TellsOf m b p f ns n.left told → TellsOf m b p f ns root told
only_low m b p f ns root n told is out above g es t s =
    let o = goes_round m b ns root n es is t s in
    g o.low o.left_tree o.low_sorted
    ∙ sym (ap (λ l. f (filter p l)) o.whole
    ∙ ap f (filter_append p (items_of o.low) (n.item ∷ items_of o.high)
    ∙ ap (λ l. filter p (items_of o.low) ++ l) (unpicked (p n.item) out (n.item ∷ filter p (items_of o.high)) (filter p (items_of o.high))
    ∙ same_first b p (λ z. false) n.item (items_of o.high) above o.first ∙ filter_false (items_of o.high))
    ∙ append-nil _))

-- ---- the first

first_some : {T : Type 0} (xs ys : List T) (z : T) → Some z ≡ first_of xs → first_of (xs ++ ys) ≡ Some z
first_some [] ys z e = absurd (cc)
first_some (x ∷ xs) ys z e = sym e

first_none : {T : Type 0} (xs ys : List T) → None ≡ first_of xs → first_of (xs ++ ys) ≡ first_of ys
first_none [] ys e = refl
first_none (x ∷ xs) ys e = absurd (cc)

-- the first that passes is on the left
pub found_left : {T S : Type 0} (m : Sums T S) (b : T → T → Bool) (p : T → Bool) (ns : List (Node T S)) (root : ℕ) (n : Node T S) (x : T) → node_at ns root ≡ Some n
    → TellsPassing m b p ns n.left (Some x) → TellsPassing m b p ns root (Some x)
found_left m b p ns root n x is g es t s =
    let o = goes_round m b ns root n es is t s in
    sym (ap (λ l. first_of (filter p l)) o.whole ∙ ap first_of (filter_append p (items_of o.low) (n.item ∷ items_of o.high)) ∙ first_some (filter p (items_of o.low)) _ x (g o.low o.left_tree o.low_sorted))

-- the first that passes is the node's item
pub found_here : {T S : Type 0} (m : Sums T S) (b : T → T → Bool) (p : T → Bool) (ns : List (Node T S)) (root : ℕ) (n : Node T S) → node_at ns root ≡ Some n → p n.item ≡ true
    → TellsPassing m b p ns n.left None → TellsPassing m b p ns root (Some n.item)
found_here m b p ns root n is passes g es t s =
    let o = goes_round m b ns root n es is t s in
    sym (ap (λ l. first_of (filter p l)) o.whole ∙ ap first_of (filter_append p (items_of o.low) (n.item ∷ items_of o.high)) ∙ first_none (filter p (items_of o.low)) _ (g o.low o.left_tree o.low_sorted)
    ∙ ap first_of (picked (p n.item) passes (n.item ∷ filter p (items_of o.high)) (filter p (items_of o.high))))

-- the first that passes is on the right, where another test that agrees there was asked
pub found_right : {T S : Type 0} (m : Sums T S) (b : T → T → Bool) (p q : T → Bool) (ns : List (Node T S)) (root : ℕ) (n : Node T S) (told : Option T) → node_at ns root ≡ Some n → p n.item ≡ false
    → ((z : T) → b n.item z ≡ true → q z ≡ p z) → TellsPassing m b p ns n.left None → TellsPassing m b q ns n.right told → TellsPassing m b p ns root told
found_right m b p q ns root n told is out same g h es t s =
    let o = goes_round m b ns root n es is t s in
    h o.high o.right_tree o.high_sorted
    ∙ ap first_of (same_first b q p n.item (items_of o.high) same o.first)
    ∙ sym (ap (λ l. first_of (filter p l)) o.whole ∙ ap first_of (filter_append p (items_of o.low) (n.item ∷ items_of o.high)) ∙ first_none (filter p (items_of o.low)) _ (g o.low o.left_tree o.low_sorted)
    ∙ ap first_of (unpicked (p n.item) out (n.item ∷ filter p (items_of o.high)) (filter p (items_of o.high))))

-- ---- sums that pass

-- a test of sums passes a joined sum exactly where it passes one of the two
abbrev pub IsEither : {T S : Type 0} → Sums T S → (S → Bool) → Type 0
IsEither {S = S} m t = (a c : S) → t (m.joined a c) ≡ (t a || t c)

both_fail : (a c : Bool) → (a || c) ≡ false → (a ≡ false) × (c ≡ false)
both_fail true c e = absurd (clash e refl)
both_fail false c e = (refl, e)

none_passes : {T S : Type 0} (m : Sums T S) (t : S → Bool) → IsEither m t → (p : T → Bool) → ((y : T) → own_passes m t y ≡ false → p y ≡ false) → (s : S) (xs : List T) → Some s ≡ sum_of m xs → t s ≡ false → filter p xs ≡ []
none_passes m t e p only s [] is out = refl
none_passes m t e p only s (x ∷ []) is out = unpicked (p x) (only x (same is out)) (x ∷ []) []
  where
    same : Some s ≡ Some (m.own x) → t s ≡ false → t (m.own x) ≡ false
    same is out = cc
none_passes m t e p only s (x ∷ y ∷ ys) is out =
    let two = both_fail (t (m.own x)) (t (led m (m.own y) (sum_of m ys))) (sym (e (m.own x) (led m (m.own y) (sum_of m ys))) ∙ fails s (m.joined (m.own x) (led m (m.own y) (sum_of m ys))) is out) in
    unpicked (p x) (only x two.0) (x ∷ filter p (y ∷ ys)) (filter p (y ∷ ys)) ∙ none_passes m t e p only (led m (m.own y) (sum_of m ys)) (y ∷ ys) refl two.1
  where
    fails : (u v : _) → Some u ≡ Some v → t u ≡ false → t v ≡ false
    fails u v is out = cc

-- the sum of a tree fails, so that no item of it passes
pub found_nowhere : {T S : Type 0} (m : Sums T S) (b : T → T → Bool) (t : S → Bool) → IsEither m t → (p : T → Bool) → ((y : T) → own_passes m t y ≡ false → p y ≡ false) → (ns : List (Node T S)) (root : ℕ) (n : Node T S)
    → node_at ns root ≡ Some n → t n.sum ≡ false → TellsPassing m b p ns root None
found_nowhere m b t e p only ns root n is out es tree s =
    let sum : Some n.sum ≡ sum_of m (items_of es) = sym (told is) ∙ sum_is tree in
    sym (ap first_of (none_passes m t e p only n.sum (items_of es) sum out))
  where
    told : node_at ns root ≡ Some n → sum_at ns root ≡ Some n.sum
    told is = ap (option_map (λ k. k.sum)) is

-- ---- tests of an order

pub not_like_first : (a c : Bool) → a ≡ true → not (a || c) ≡ false
not_like_first true c e = refl
not_like_first false c e = absurd (clash refl e)

pub not_like_last : (a c : Bool) → c ≡ true → not (a || c) ≡ false
not_like_last true c e = refl
not_like_last false true e = refl
not_like_last false false e = absurd (clash refl e)

pub after_fails : {T : Type 0} {b : T → T → Bool} → IsOrder b → (x y z : T) → b x y ≡ false → b z y ≡ true → b x z ≡ false
after_fails {b = b} o x y z out e = is_no (b x z) (λ h. clash out (leads o x z y h e))

pub like_above : {T : Type 0} {b : T → T → Bool} → IsOrder b → (x y z : T) → b x y ≡ true → b y z ≡ true → is_like b x z ≡ false
like_above {b = b} o x y z e f = not_like_first (b x z) (b z x) (leads o x y z e f)

pub like_below : {T : Type 0} {b : T → T → Bool} → IsOrder b → (x y z : T) → b y x ≡ true → b z y ≡ true → is_like b x z ≡ false
like_below {b = b} o x y z e f = not_like_last (b x z) (b z x) (leads o z y x f e)

pub until_fails : {T : Type 0} {b : T → T → Bool} → IsOrder b → (x y z : T) → b y x ≡ false → b y z ≡ true → b z x ≡ false
until_fails {b = b} o x y z out e = is_no (b z x) (λ h. clash out (leads o y z x e h))

pub fails_first : (a c : Bool) → a ≡ false → (a && c) ≡ false
fails_first true c e = absurd (clash e refl)
fails_first false c e = refl

pub fails_last : (a c : Bool) → c ≡ false → (a && c) ≡ false
fails_last true c e = e
fails_last false c e = refl

pub is_last : (a c : Bool) → a ≡ true → (a && c) ≡ c
is_last true c e = refl
is_last false c e = absurd (clash refl e)

pub is_first : (a c : Bool) → c ≡ true → (a && c) ≡ a
is_first true c e = e
is_first false c e = refl

-- the node's item is like another
pub like_here : {T S : Type 0} (m : Sums T S) {b : T → T → Bool} → IsOrder b → (ns : List (Node T S)) (root : ℕ) (n : Node T S) (x : T) → node_at ns root ≡ Some n → is_like b x n.item ≡ true → TellsPassing m b (is_like b x) ns root (Some n.item)
like_here m {b = b} order ns root n x is like es t s =
    let o = goes_round m b ns root n es is t s in
    let p = is_like b x in
    sym (ap (λ l. first_of (filter p l)) o.whole ∙ ap first_of (filter_append p (items_of o.low) (n.item ∷ items_of o.high))
    ∙ ap (λ l. first_of (l ++ filter p (n.item ∷ items_of o.high))) (same_last b p (λ z. false) n.item (items_of o.low) (λ z e. low_not_like order x n.item z like e) o.last ∙ filter_false (items_of o.low))
    ∙ ap first_of (picked (p n.item) like (n.item ∷ filter p (items_of o.high)) (filter p (items_of o.high))))

-- an item is found exactly where one is like it
pub found_like : {T : Type 0} (b : T → T → Bool) (x : T) (ys : List T) (told : Option T) → told ≡ first_of (filter (is_like b x) ys) → is_some told ≡ has_like b x ys
found_like b x ys told e = ap is_some e ∙ some_like b x ys
  where
    some_like : {T : Type 0} (b : T → T → Bool) (x : T) (ys : List T) → is_some (first_of (filter (is_like b x) ys)) ≡ has_like b x ys
    some_like b x [] = refl
    some_like b x (y ∷ ys) =
        elim (is_like b x y) as (λ c. is_some (first_of (if c then y ∷ filter (is_like b x) ys else filter (is_like b x) ys)) ≡ (c || has_like b x ys))
        [ true ↦ refl | false ↦ some_like b x ys ]

-- ---- sums of some of the items

pub sum_of_both : {T S : Type 0} (m : Sums T S) → Joins m → (b : T → T → Bool) (p q r : T → Bool) (ns : List (Node T S)) (root : ℕ) (n : Node T S) (left right : Option S) → node_at ns root ≡ Some n → p n.item ≡ true
    → ((z : T) → b z n.item ≡ true → q z ≡ p z) → ((z : T) → b n.item z ≡ true → r z ≡ p z) → TellsSum m b q ns n.left left → TellsSum m b r ns n.right right
    → TellsSum m b p ns root (Some (around m left n.item right))
sum_of_both m j b p q r ns root n left right is passes low high g h es t s =
    let o = goes_round m b ns root n es is t s in
    let l : left ≡ sum_of m (filter p (items_of o.low)) = g o.low o.left_tree o.low_sorted ∙ ap (sum_of m) (same_last b q p n.item (items_of o.low) low o.last) in
    let k : right ≡ sum_of m (filter p (items_of o.high)) = h o.high o.right_tree o.high_sorted ∙ ap (sum_of m) (same_first b r p n.item (items_of o.high) high o.first) in
    (λ i. Some (around m (l i) n.item (k i)))
    ∙ sym (sum_around m j (filter p (items_of o.low)) n.item (filter p (items_of o.high)))
    ∙ sym (ap (λ l. sum_of m (filter p l)) o.whole ∙ ap (sum_of m) (filter_append p (items_of o.low) (n.item ∷ items_of o.high)
    ∙ ap (λ l. filter p (items_of o.low) ++ l) (picked (p n.item) passes (n.item ∷ filter p (items_of o.high)) (filter p (items_of o.high)))))

-- the sum of a whole tree
pub sum_of_whole : {T S : Type 0} (m : Sums T S) (b : T → T → Bool) (ns : List (Node T S)) (root : ℕ) (sum : Option S) → sum ≡ sum_at ns root → TellsSum m b (λ z. true) ns root sum
sum_of_whole m b ns root sum e es t s = e ∙ sum_is t ∙ ap (sum_of m) (sym (filter_true (items_of es)))
