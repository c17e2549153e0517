-- Lists with one more among others.
use Rattle.std.proofs.Common.{◌≡◌, ◌∙◌, ◌+◌, ◌<◌, ℕ, zero, suc, List, [], ◌∷◌, ◌++◌, length, Some, None, Bool, true, false, ◌&&◌, refl, sym, ap, subst, arith}
use Rattle.std.specs.Prelude.{Option, ◌==◌, if◌then◌else◌, map}
use Rattle.std.proofs.lemmas.Bool.{eqb-true, eq-eqb}
use Rattle.std.proofs.lemmas.List.{map-append, append_assoc}
use Rattle.std.proofs.Math.ListN.{set}
use Rattle.cta_model.specs.declared.states.Place.{Place}
use Rattle.part_model.specs.declared.space.Placed.{Placed}
use Rattle.part_model.specs.Tapes.{AreDistinct, place_among, is_placed}
use Rattle.sum_trees.specs.Order.{inserted}
use Rattle.sum_trees.specs.Forests.{items_in}
use Rattle.tape_table.specs.declared.live.LiveCopy.{LiveCopy}
use Rattle.tape_table.specs.Indexed.{placed_at, placed_from}

-- the second list has one more than the first
pub record Added {A : Type 0} (x : A) (old new : List A) : Type 0 where
  pub low : List A
  pub high : List A
  pub before : old ≡ low ++ high
  pub behind : new ≡ low ++ x ∷ high

pub added_inserted : {A : Type 0} (b : A → A → Bool) (x : A) (ys : List A) → Added x ys (inserted b x ys)
added_inserted b x [] = record { low = []; high = []; before = refl; behind = refl }
added_inserted {A = A} b x (y ∷ ys) = by (b x y) (added_inserted b x ys)
  where
    by : (c : Bool) → Added x ys (inserted b x ys) → Added x (y ∷ ys) (if c then x ∷ y ∷ ys else y ∷ inserted b x ys)
    by true a = record { low = []; high = y ∷ ys; before = refl; behind = refl }
    by false a = record { low = y ∷ a.low; high = a.high; before = ap (λ (l : List A). y ∷ l) a.before; behind = ap (λ (l : List A). y ∷ l) a.behind }

pub added_map : {A B : Type 0} (g : A → B) (x : A) (ys zs : List A) → Added x ys zs → Added (g x) (map g ys) (map g zs)
added_map g x ys zs a = record { low = map g a.low; high = map g a.high; before = ap (map g) a.before ∙ map-append g a.low a.high; behind = ap (map g) a.behind ∙ map-append g a.low (x ∷ a.high) }

pub added_left : {A : Type 0} (x : A) (ws ys zs : List A) → Added x ys zs → Added x (ws ++ ys) (ws ++ zs)
added_left x ws ys zs a = record { low = ws ++ a.low; high = a.high; before = ap (λ l. ws ++ l) a.before ∙ sym (append_assoc ws a.low a.high); behind = ap (λ l. ws ++ l) a.behind ∙ sym (append_assoc ws a.low (x ∷ a.high)) }

pub added_right : {A : Type 0} (x : A) (ws ys zs : List A) → Added x ys zs → Added x (ys ++ ws) (zs ++ ws)
added_right x ws ys zs a = record { low = a.low; high = a.high ++ ws; before = ap (λ l. l ++ ws) a.before ∙ append_assoc a.low a.high ws; behind = ap (λ l. l ++ ws) a.behind ∙ append_assoc a.low (x ∷ a.high) ws }

-- ---- copies with their places

same_tape : (t n : ℕ) → t + 0 ≡ n → t ≡ n
same_tape t n e = omega arith

next_tape : (t j n : ℕ) → t + suc j ≡ n → suc t + j ≡ n
next_tape t j n e = omega arith

-- one tree with one more
pub tree_added : (x : LiveCopy) (t k n : ℕ) (trees : List (List LiveCopy)) (zs : List LiveCopy) → t + k ≡ n → k < length trees → Added x (items_in trees k) zs → Added (placed_at n x) (placed_from t trees) (placed_from t (set trees k zs))
tree_added x t k n [] zs e within a = absurd (omega arith)
tree_added x t zero n (ys ∷ trees) zs e within a = subst (λ m. Added (placed_at m x) (placed_from t (ys ∷ trees)) (placed_from t (zs ∷ trees))) (same_tape t n e) (added_right (placed_at t x) (placed_from (suc t) trees) (map (placed_at t) ys) (map (placed_at t) zs) (added_map (placed_at t) x ys zs a))
tree_added x t (suc k) n (ys ∷ trees) zs e within a = added_left (placed_at n x) (map (placed_at t) ys) (placed_from (suc t) trees) (placed_from (suc t) (set trees k zs)) (tree_added x (suc t) k n trees zs (next_tape t k n e) (omega arith) a)

-- one tree with one fewer
pub tree_taken : (x : LiveCopy) (t k n : ℕ) (trees : List (List LiveCopy)) (zs : List LiveCopy) → t + k ≡ n → k < length trees → Added x zs (items_in trees k) → Added (placed_at n x) (placed_from t (set trees k zs)) (placed_from t trees)
tree_taken x t k n [] zs e within a = absurd (omega arith)
tree_taken x t zero n (ys ∷ trees) zs e within a = subst (λ m. Added (placed_at m x) (placed_from t (zs ∷ trees)) (placed_from t (ys ∷ trees))) (same_tape t n e) (added_right (placed_at t x) (placed_from (suc t) trees) (map (placed_at t) zs) (map (placed_at t) ys) (added_map (placed_at t) x zs ys a))
tree_taken x t (suc k) n (ys ∷ trees) zs e within a = added_left (placed_at n x) (map (placed_at t) ys) (placed_from (suc t) (set trees k zs)) (placed_from (suc t) trees) (tree_taken x (suc t) k n trees zs (next_tape t k n e) (omega arith) a)

-- ---- places with one more

-- whether these numbers are the copy
both_eq : (f c : ℕ) (q : Placed) → is_placed f c q ≡ true → (q.file ≡ f) × (q.copy ≡ c)
both_eq f c q e = by (q.file == f) refl (q.copy == c) refl e
  where
    by : (a : Bool) → (q.file == f) ≡ a → (b : Bool) → (q.copy == c) ≡ b → (a && b) ≡ true → (q.file ≡ f) × (q.copy ≡ c)
    by true ea true eb h = (eqb-true q.file f ea, eqb-true q.copy c eb)
    by true ea false eb h = absurd (cc)
    by false ea b eb h = absurd (cc)

pub clash : {b : Bool} → b ≡ false → b ≡ true → ⊥
clash e f = cc

pub is_no : (a : Bool) → (a ≡ true → ⊥) → a ≡ false
is_no true f = absurd (f refl)
is_no false f = refl

pub placed_self : (x : Placed) → is_placed x.file x.copy x ≡ true
placed_self x = (λ i. eq-eqb x.file x.file refl i && eq-eqb x.copy x.copy refl i)

flipped : (x q : Placed) → is_placed x.file x.copy q ≡ true → is_placed q.file q.copy x ≡ true
flipped x q e = let s = both_eq x.file x.copy q e in (λ i. eq-eqb x.file q.file (sym s.0) i && eq-eqb x.copy q.copy (sym s.1) i)

apart : (x q : Placed) → is_placed x.file x.copy q ≡ false → is_placed q.file q.copy x ≡ false
apart x q e = is_no _ (λ h. clash e (flipped q x h))

-- a copy is not both of two that differ
not_both : (f c : ℕ) (x q : Placed) → is_placed x.file x.copy q ≡ false → is_placed f c q ≡ true → is_placed f c x ≡ false
not_both f c x q e h = is_no _ (λ k. let s = both_eq f c x k in let r = both_eq f c q h in clash e (λ i. eq-eqb q.file x.file (r.0 ∙ sym s.0) i && eq-eqb q.copy x.copy (r.1 ∙ sym s.1) i))

if_none : (a : Bool) (p : Place) (o : Option Place) → (if a then Some p else o) ≡ None → (a ≡ false) × (o ≡ None)
if_none true p o e = absurd (cc)
if_none false p o e = (refl, e)

none_if : (a : Bool) (p : Place) (o : Option Place) → a ≡ false → o ≡ None → (if a then Some p else o) ≡ None
none_if true p o e f = absurd (cc)
none_if false p o e f = f

pub told_among : (low high : List Placed) (x : Placed) → place_among (low ++ high) x.file x.copy ≡ None → (f c : ℕ) → place_among (low ++ x ∷ high) f c ≡ (if is_placed f c x then Some x.place else place_among (low ++ high) f c)
told_among [] high x none f c = refl
told_among (q ∷ low) high x none f c =
    let n = if_none (is_placed x.file x.copy q) q.place (place_among (low ++ high) x.file x.copy) none in
    by (is_placed f c q) refl (is_placed f c x) refl n.0 (told_among low high x n.1 f c)
  where
    by : (a : Bool) → is_placed f c q ≡ a → (b : Bool) → is_placed f c x ≡ b → is_placed x.file x.copy q ≡ false
        → place_among (low ++ x ∷ high) f c ≡ (if b then Some x.place else place_among (low ++ high) f c)
        → (if a then Some q.place else place_among (low ++ x ∷ high) f c) ≡ (if b then Some x.place else (if a then Some q.place else place_among (low ++ high) f c))
    by true ea true eb other is = absurd (clash (not_both f c x q other ea) eb)
    by true ea false eb other is = refl
    by false ea b eb other is = is

pub distinct_added : (low high : List Placed) (x : Placed) → place_among (low ++ high) x.file x.copy ≡ None → AreDistinct (low ++ high) → AreDistinct (low ++ x ∷ high)
unfolding AreDistinct
distinct_added [] high x none d = (none, d)
distinct_added (q ∷ low) high x none d =
    let n = if_none (is_placed x.file x.copy q) q.place (place_among (low ++ high) x.file x.copy) none in
    (told_among low high x n.1 q.file q.copy ∙ none_if (is_placed q.file q.copy x) x.place _ (apart x q n.0) d.0, distinct_added low high x n.1 d.1)

pub distinct_taken : (low high : List Placed) (x : Placed) → AreDistinct (low ++ x ∷ high) → AreDistinct (low ++ high) × (place_among (low ++ high) x.file x.copy ≡ None)
unfolding AreDistinct
distinct_taken [] high x d = (d.1, d.0)
distinct_taken (q ∷ low) high x d =
    let less = distinct_taken low high x d.1 in
    let n = if_none (is_placed q.file q.copy x) x.place (place_among (low ++ high) q.file q.copy) (sym (told_among low high x less.1 q.file q.copy) ∙ d.0) in
    ((n.1, less.0), none_if (is_placed x.file x.copy q) q.place _ (apart q x n.0) less.1)
