-- The copies of trees and their places.
use Rattle.std.proofs.Common.{◌≡◌, ◌∙◌, ◌+◌, ◌<◌, ◌⊎◌, inl, inr, ℕ, suc, List, [], ◌∷◌, ◌++◌, length, Some, None, Bool, true, false, ◌&&◌, ◌||◌, refl, sym, ap, subst, arith}
use Rattle.std.specs.Prelude.{Option, ◌==◌, if◌then◌else◌, map, not, nat_lt}
use Rattle.std.specs.Map.{lookup}
use Rattle.std.proofs.lemmas.Bool.{eqb-true, eq-eqb}
use Rattle.std.proofs.lemmas.Bool.Decides.{nat_tests}
use Rattle.std.proofs.Math.ListN.{set}
use Rattle.cta_model.specs.declared.states.Place.{Place}
use Rattle.part_model.specs.declared.space.Placed.{Placed}
use Rattle.part_model.specs.Tapes.{AreDistinct, place_among}
use Rattle.sum_trees.specs.Order.{inserted, unlike, is_like, has_like, IsSorted}
use Rattle.sum_trees.specs.Forests.{items_in}
use Rattle.sum_trees.proofs.Orders.{IsOrder, unlike_cut}
use Rattle.tape_table.specs.declared.live.LiveCopy.{LiveCopy}
use Rattle.tape_table.specs.Counts.{live_before, live_one_way, live_splits}
use Rattle.tape_table.specs.Indexed.{placed_at, placed_from, IsIndex, IsBehind}
use Rattle.tape_table.specs.Rows.{CopyKey, same_copy}
use Rattle.tape_table.proofs.Added.{Added, added_inserted, tree_added, tree_taken, told_among, distinct_added, distinct_taken, placed_self}

-- ---- no trees

pub none_placed : (trees : List (List LiveCopy)) (n t : ℕ) → ((k : ℕ) → items_in trees k ≡ []) → placed_from t trees ≡ []
none_placed [] n t none = refl
none_placed (xs ∷ trees) n t none = (λ i. map (placed_at t) (none 0 i) ++ none_placed trees n (suc t) (λ k. none (suc k)) i)

-- ---- where a copy is

-- a copy stands among the items of a tree
pub record Stands (trees : List (List LiveCopy)) (t f c : ℕ) (p : Place) : Type 0 where
  pub tree : ℕ
  pub its_tape : t + tree ≡ p.tape
  pub its_copy : p.copy ≡ c
  pub within : tree < length trees
  pub low : List LiveCopy
  pub high : List LiveCopy
  pub items : items_in trees tree ≡ low ++ record { fseq = p.fseq; file = f; copy = c } ∷ high

-- the same for the items of one tree
record StandsHere (xs : List LiveCopy) (t f c : ℕ) (p : Place) : Type 0 where
  its_tape : t ≡ p.tape
  its_copy : p.copy ≡ c
  low : List LiveCopy
  high : List LiveCopy
  items : xs ≡ low ++ record { fseq = p.fseq; file = f; copy = c } ∷ high

abbrev place_on : ℕ → LiveCopy → Place
place_on t x = record { copy = x.copy; tape = t; fseq = x.fseq }

abbrev live_at : ℕ → ℕ → ℕ → LiveCopy
live_at s f c = record { fseq = s; file = f; copy = c }

head_stands : (x : LiveCopy) (xs : List LiveCopy) (t f c : ℕ) (p : Place) → x.file ≡ f → x.copy ≡ c → Some (place_on t x) ≡ Some p → StandsHere (x ∷ xs) t f c p
head_stands x xs t f c p ef ec is =
    let same : place_on t x ≡ p = cc in
    record { its_tape = ap (λ (q : Place). q.tape) same; its_copy = sym (ap (λ (q : Place). q.copy) same) ∙ ec; low = []; high = xs; items = (λ i. live_at (same i).fseq (ef i) (ec i) ∷ xs) }

among_tree : (xs : List LiveCopy) (t f c : ℕ) (rest : List Placed) (p : Place) → place_among (map (placed_at t) xs ++ rest) f c ≡ Some p → StandsHere xs t f c p ⊎ (place_among rest f c ≡ Some p)
among_tree [] t f c rest p e = inr e
among_tree (x ∷ xs) t f c rest p e = by (x.file == f) refl (x.copy == c) refl e (λ h. among_tree xs t f c rest p h)
  where
    more : StandsHere xs t f c p ⊎ (place_among rest f c ≡ Some p) → StandsHere (x ∷ xs) t f c p ⊎ (place_among rest f c ≡ Some p)
    more (inl s) = inl (record { its_tape = s.its_tape; its_copy = s.its_copy; low = x ∷ s.low; high = s.high; items = ap (λ (l : List LiveCopy). x ∷ l) s.items })
    more (inr h) = inr h

    by : (a : Bool) → (x.file == f) ≡ a → (b : Bool) → (x.copy == c) ≡ b → (if a && b then Some (place_on t x) else place_among (map (placed_at t) xs ++ rest) f c) ≡ Some p
        → (place_among (map (placed_at t) xs ++ rest) f c ≡ Some p → StandsHere xs t f c p ⊎ (place_among rest f c ≡ Some p)) → StandsHere (x ∷ xs) t f c p ⊎ (place_among rest f c ≡ Some p)
    by true ea true eb h go = inl (head_stands x xs t f c p (eqb-true x.file f ea) (eqb-true x.copy c eb) h)
    by true ea false eb h go = more (go h)
    by false ea b eb h go = more (go h)

pub stands : (trees : List (List LiveCopy)) (t f c : ℕ) (p : Place) → place_among (placed_from t trees) f c ≡ Some p → Stands trees t f c p
stands [] t f c p e = absurd (cc)
stands (xs ∷ trees) t f c p e = by (among_tree xs t f c (placed_from (suc t) trees) p e) (λ h. stands trees (suc t) f c p h)
  where
    by : StandsHere xs t f c p ⊎ (place_among (placed_from (suc t) trees) f c ≡ Some p) → (place_among (placed_from (suc t) trees) f c ≡ Some p → Stands trees (suc t) f c p) → Stands (xs ∷ trees) t f c p
    by (inl s) go = record { tree = 0; its_tape = (let h : t ≡ p.tape = s.its_tape in omega arith); its_copy = s.its_copy; within = omega arith; low = s.low; high = s.high; items = s.items }
    by (inr h) go = (let s = go h in record { tree = suc s.tree; its_tape = (let k : suc t + s.tree ≡ p.tape = s.its_tape in omega arith); its_copy = s.its_copy; within = (let k : s.tree < length trees = s.within in omega arith); low = s.low; high = s.high; items = s.items })

-- a copy among the items of a tree is told at its place
pub told_there : (trees : List (List LiveCopy)) (t k n : ℕ) (x : LiveCopy) (low high : List LiveCopy) → t + k ≡ n → k < length trees → items_in trees k ≡ low ++ x ∷ high → AreDistinct (placed_from t trees) → place_among (placed_from t trees) x.file x.copy ≡ Some (place_on n x)
told_there trees t k n x low high e within is d =
    let a = tree_taken x t k n trees (low ++ high) e within (record { low = low; high = high; before = refl; behind = is }) in
    let less = distinct_taken a.low a.high (placed_at n x) (subst AreDistinct a.behind d) in
    ap (λ l. place_among l x.file x.copy) a.behind
    ∙ told_among a.low a.high (placed_at n x) less.1 x.file x.copy
    ∙ ap (λ (b : Bool). if b then Some (place_on n x) else place_among (a.low ++ a.high) x.file x.copy) (placed_self (placed_at n x))

-- ---- one copy leaves, one comes

before_order : IsOrder live_before
before_order = record { one_way = live_one_way; splits = live_splits }

never_before : (x : LiveCopy) → nat_lt x.fseq x.fseq ≡ false
never_before x = grind (arith, nat_tests)

like_itself : (x : LiveCopy) → is_like live_before x x ≡ true
like_itself x = rw (never_before x) refl

abbrev taken_trees : List (List LiveCopy) → Place → ℕ → ℕ → List (List LiveCopy)
taken_trees trees p f c = set trees p.tape (unlike live_before (live_at p.fseq f c) (items_in trees p.tape))

abbrev tape_is : ℕ → ℕ → Type 0
tape_is a b = a ≡ b

-- what leaves is that copy alone
taken_added : (trees : List (List LiveCopy)) (f c : ℕ) (p : Place) → place_among (placed_from 0 trees) f c ≡ Some p → IsSorted live_before (items_in trees p.tape)
    → Added (placed_at p.tape (live_at p.fseq f c)) (placed_from 0 (taken_trees trees p f c)) (placed_from 0 trees)
taken_added trees f c p e sorted =
    let s = stands trees 0 f c p e in
    let same : s.tree ≡ p.tape = (let h : 0 + s.tree ≡ p.tape = s.its_tape in omega arith) in
    let items : items_in trees p.tape ≡ s.low ++ live_at p.fseq f c ∷ s.high = ap (λ n. items_in trees n) (sym same) ∙ s.items in
    let cut : unlike live_before (live_at p.fseq f c) (items_in trees p.tape) ≡ s.low ++ s.high =
    ap (λ l. unlike live_before (live_at p.fseq f c) l) items ∙ unlike_cut before_order (live_at p.fseq f c) s.low (live_at p.fseq f c) s.high (like_itself (live_at p.fseq f c)) (subst (IsSorted live_before) items sorted) in
    tree_taken (live_at p.fseq f c) 0 p.tape p.tape trees _ (omega arith) (subst (λ n. n < length trees) same s.within) (record { low = s.low; high = s.high; before = cut; behind = items })

pub taken_within : (trees : List (List LiveCopy)) (es : List (CopyKey × Place)) (f c : ℕ) (p : Place) → IsIndex trees es → Some p ≡ place_among (placed_from 0 trees) f c → p.tape < length trees
taken_within trees es f c p index e =
    let s = stands trees 0 f c p (sym e) in
    let same : 0 + s.tree ≡ p.tape = s.its_tape in
    let within : s.tree < length trees = s.within in
    omega arith

-- the places but that of a copy
abbrev but : ℕ → ℕ → List Placed → ℕ → ℕ → Option Place
but file copy ps f c = if file == f && copy == c then None else place_among ps f c

taken_told : (old new : List Placed) (x : Placed) → Added x new old → AreDistinct old → (f c : ℕ) → place_among new f c ≡ but x.file x.copy old f c
taken_told old new x a d f c =
    let less = distinct_taken a.low a.high x (subst AreDistinct a.behind d) in
    ap (λ l. place_among l f c) a.before
    ∙ by (x.file == f) refl (x.copy == c) refl less.1 (told_among a.low a.high x less.1 f c)
    ∙ ap (λ l. but x.file x.copy l f c) (sym a.behind)
  where
    by : (u : Bool) → (x.file == f) ≡ u → (v : Bool) → (x.copy == c) ≡ v → place_among (a.low ++ a.high) x.file x.copy ≡ None
        → place_among (a.low ++ x ∷ a.high) f c ≡ (if u && v then Some x.place else place_among (a.low ++ a.high) f c) → place_among (a.low ++ a.high) f c ≡ (if u && v then None else place_among (a.low ++ x ∷ a.high) f c)
    by true eu true ev none is = sym (λ i. place_among (a.low ++ a.high) (eqb-true x.file f eu i) (eqb-true x.copy c ev i)) ∙ none
    by true eu false ev none is = sym is
    by false eu v ev none is = sym is

pub taken_distinct : (trees : List (List LiveCopy)) (f c : ℕ) (p : Place) → Some p ≡ place_among (placed_from 0 trees) f c → IsSorted live_before (items_in trees p.tape) → AreDistinct (placed_from 0 trees) → AreDistinct (placed_from 0 (taken_trees trees p f c))
taken_distinct trees f c p e sorted d =
    let a = taken_added trees f c p (sym e) sorted in
    subst AreDistinct (sym a.before) (distinct_taken a.low a.high _ (subst AreDistinct a.behind d)).0

pub taken_places : (trees : List (List LiveCopy)) (file copy : ℕ) (p : Place) → Some p ≡ place_among (placed_from 0 trees) file copy → IsSorted live_before (items_in trees p.tape) → AreDistinct (placed_from 0 trees)
    → (f c : ℕ) → place_among (placed_from 0 (taken_trees trees p file copy)) f c ≡ but file copy (placed_from 0 trees) f c
taken_places trees file copy p e sorted d = taken_told (placed_from 0 trees) (placed_from 0 (taken_trees trees p file copy)) _ (taken_added trees file copy p (sym e) sorted) d

-- where the copy has no place, nothing leaves
pub none_taken : (ps : List Placed) (file copy : ℕ) → None ≡ place_among ps file copy → (f c : ℕ) → place_among ps f c ≡ but file copy ps f c
none_taken ps file copy e f c = by (file == f) refl (copy == c) refl
  where
    by : (u : Bool) → (file == f) ≡ u → (v : Bool) → (copy == c) ≡ v → place_among ps f c ≡ (if u && v then None else place_among ps f c)
    by true eu true ev = sym (λ i. place_among ps (eqb-true file f eu i) (eqb-true copy c ev i)) ∙ sym e
    by true eu false ev = refl
    by false eu v ev = refl

-- ---- the index without a copy

pub index_taken : (trees new : List (List LiveCopy)) (es now : List (CopyKey × Place)) (file copy : ℕ) (p : Place) → IsIndex trees es → Some p ≡ place_among (placed_from 0 trees) file copy → IsSorted live_before (items_in trees p.tape)
    → new ≡ taken_trees trees p file copy → ((f c : ℕ) → lookup (same_copy (f, c)) now ≡ (if file == f && copy == c then None else lookup (same_copy (f, c)) es)) → IsIndex new now
index_taken trees new es now file copy p index e sorted is each = subst (λ l. IsIndex l now) (sym is) (record {
  distinct = taken_distinct trees file copy p e sorted index.distinct;
  told = λ f c. each f c ∙ ap (λ (o : Option Place). if file == f && copy == c then None else o) (index.told f c) ∙ sym (taken_places trees file copy p e sorted index.distinct f c);
})

pub places_taken : (trees new : List (List LiveCopy)) (es : List (CopyKey × Place)) (ps : List Placed) (file copy : ℕ) (p : Place) → IsIndex trees es → placed_from 0 trees ≡ ps → Some p ≡ place_among (placed_from 0 trees) file copy → IsSorted live_before (items_in trees p.tape)
    → new ≡ taken_trees trees p file copy → (f c : ℕ) → place_among (placed_from 0 new) f c ≡ but file copy ps f c
places_taken trees new es ps file copy p index view e sorted is f c =
    ap (λ l. place_among (placed_from 0 l) f c) is ∙ taken_places trees file copy p e sorted index.distinct f c ∙ ap (λ l. but file copy l f c) view

-- ---- the index with one more copy

lower_not_like : (x y : LiveCopy) → y.fseq < x.fseq → is_like live_before x y ≡ false
lower_not_like x y less = by (nat_lt x.fseq y.fseq) (nat_lt y.fseq x.fseq) (grind (arith, nat_tests))
  where
    by : (a b : Bool) → b ≡ true → not (a || b) ≡ false
    by true b e = refl
    by false b e = ap not e

-- none of the items is like one with a greater fSeq
none_like : (x : LiveCopy) (ys : List LiveCopy) → ((low high : List LiveCopy) (y : LiveCopy) → ys ≡ low ++ y ∷ high → y.fseq < x.fseq) → has_like live_before x ys ≡ false
none_like x [] less = refl
none_like x (y ∷ ys) less = (λ i. lower_not_like x y (less [] ys y refl) i || none_like x ys (λ low high z is. less (y ∷ low) high z (ap (λ (l : List LiveCopy). y ∷ l) is)) i)

pub lacks_later : (trees : List (List LiveCopy)) (es : List (CopyKey × Place)) (tape fseq file copy : ℕ) → IsIndex trees es → tape < length trees → IsBehind (placed_from 0 trees) tape fseq → has_like live_before (live_at fseq file copy) (items_in trees tape) ≡ false
lacks_later trees es tape fseq file copy index within behind =
    none_like (live_at fseq file copy) (items_in trees tape) (λ low high y is. behind y.file y.copy (place_on tape y) (told_there trees 0 tape tape y low high (omega arith) within is index.distinct) refl)

abbrev put_trees : List (List LiveCopy) → ℕ → Place → List (List LiveCopy)
put_trees trees file p = set trees p.tape (inserted live_before (live_at p.fseq file p.copy) (items_in trees p.tape))

-- the places with one for a copy that had none
abbrev with : ℕ → Place → List Placed → ℕ → ℕ → Option Place
with file p ps f c = if file == f && p.copy == c then Some p else place_among ps f c

put_added : (trees : List (List LiveCopy)) (file : ℕ) (p : Place) → p.tape < length trees → Added (placed_at p.tape (live_at p.fseq file p.copy)) (placed_from 0 trees) (placed_from 0 (put_trees trees file p))
put_added trees file p within = tree_added (live_at p.fseq file p.copy) 0 p.tape p.tape trees _ (omega arith) within (added_inserted live_before (live_at p.fseq file p.copy) (items_in trees p.tape))

put_places : (trees : List (List LiveCopy)) (file : ℕ) (p : Place) → p.tape < length trees → place_among (placed_from 0 trees) file p.copy ≡ None → (f c : ℕ) → place_among (placed_from 0 (put_trees trees file p)) f c ≡ with file p (placed_from 0 trees) f c
put_places trees file p within none f c =
    let a = put_added trees file p within in
    let x = placed_at p.tape (live_at p.fseq file p.copy) in
    ap (λ l. place_among l f c) a.behind
    ∙ told_among a.low a.high x (ap (λ l. place_among l file p.copy) (sym a.before) ∙ none) f c
    ∙ ap (λ l. with file p l f c) (sym a.before)

put_distinct : (trees : List (List LiveCopy)) (file : ℕ) (p : Place) → p.tape < length trees → place_among (placed_from 0 trees) file p.copy ≡ None → AreDistinct (placed_from 0 trees) → AreDistinct (placed_from 0 (put_trees trees file p))
put_distinct trees file p within none d =
    let a = put_added trees file p within in
    subst AreDistinct (sym a.behind) (distinct_added a.low a.high _ (ap (λ l. place_among l file p.copy) (sym a.before) ∙ none) (subst AreDistinct a.before d))

pub index_put : (trees new : List (List LiveCopy)) (es now : List (CopyKey × Place)) (file : ℕ) (p : Place) → IsIndex trees es → p.tape < length trees → place_among (placed_from 0 trees) file p.copy ≡ None
    → new ≡ put_trees trees file p → ((f c : ℕ) → lookup (same_copy (f, c)) now ≡ (if file == f && p.copy == c then Some p else lookup (same_copy (f, c)) es)) → IsIndex new now
index_put trees new es now file p index within none is each = subst (λ l. IsIndex l now) (sym is) (record {
  distinct = put_distinct trees file p within none index.distinct;
  told = λ f c. each f c ∙ ap (λ (o : Option Place). if file == f && p.copy == c then Some p else o) (index.told f c) ∙ sym (put_places trees file p within none f c);
})

pub left_none : (new old : List Placed) (file copy : ℕ) → ((f c : ℕ) → place_among new f c ≡ but file copy old f c) → place_among new file copy ≡ None
left_none new old file copy left = left file copy ∙ (λ i. if eq-eqb file file refl i && eq-eqb copy copy refl i then None else place_among old file copy)

-- the copy has left before it comes
pub places_put : (trees new : List (List LiveCopy)) (es : List (CopyKey × Place)) (old : List Placed) (file : ℕ) (p : Place) → IsIndex trees es → p.tape < length trees → ((f c : ℕ) → place_among (placed_from 0 trees) f c ≡ but file p.copy old f c)
    → new ≡ put_trees trees file p → (f c : ℕ) → place_among (placed_from 0 new) f c ≡ with file p old f c
places_put trees new es old file p index within left is f c =
    ap (λ l. place_among (placed_from 0 l) f c) is ∙ put_places trees file p within (left_none (placed_from 0 trees) old file p.copy left) f c ∙ by (file == f && p.copy == c) (left f c)
  where
    by : (a : Bool) → place_among (placed_from 0 trees) f c ≡ (if a then None else place_among old f c) → (if a then Some p else place_among (placed_from 0 trees) f c) ≡ (if a then Some p else place_among old f c)
    by true e = refl
    by false e = e

pub behind_left : (old new : List Placed) (file copy tape fseq : ℕ) → ((f c : ℕ) → place_among new f c ≡ but file copy old f c) → IsBehind old tape fseq → IsBehind new tape fseq
behind_left old new file copy tape fseq left behind f c p e at = by (file == f && copy == c) (sym (left f c) ∙ e)
  where
    by : (a : Bool) → (if a then None else place_among old f c) ≡ Some p → p.fseq < fseq
    by true h = absurd (cc)
    by false h = behind f c p h at

pub index_new : (trees : List (List LiveCopy)) (es : List (CopyKey × Place)) → placed_from 0 trees ≡ [] → es ≡ [] → IsIndex trees es
unfolding AreDistinct
index_new trees es e none = record { distinct = subst AreDistinct (sym e) tt; told = λ f c. ap (λ l. lookup (same_copy (f, c)) l) none ∙ ap (λ l. place_among l f c) (sym e) }
