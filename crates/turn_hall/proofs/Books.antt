-- How the account of all calls goes on.
use Rattle.std.proofs.Common.{◌≡◌, ℕ, zero, suc, ◌+◌, ◌<◌, ◌≤◌, ◌≢◌, ◌==◌, ◌&&◌, ◌⊎◌, Bool, true, false, cond, List, [], ◌∷◌, ◌++◌, Option, Some, set, length, length-append, refl, sym, ap, ◌∙◌, subst, ⊎_elim, arith, nat_lt, le_of_eq}
use Rattle.std.proofs.lemmas.Bool.Decides.{nat_tests}
use native.Mathlib.Decide.{ℕ_discrete, dec_lt}
use mathlib.Core.Logic.{dite}
use mathlib.Core.List.{IsPrefix}
use mathlib.Core.Option.{some, some-injective, some-ne-none}
use lib.ListN.{get_elem?}
use Rattle.atomic_table.proofs.Lists.{at_set, at_snoc, set_here, set_else, at_longer}
use Rattle.turn_hall.specs.declared.view.Made.{Made}
use Rattle.turn_hall.specs.declared.view.View.{View}
use Rattle.turn_hall.specs.Lists.{total, one_if, count_if, Once, Between}
use Rattle.turn_hall.specs.Calls.{insert, merged, is_turn, is_entry}
use Rattle.turn_hall.specs.Views.{calls_of, turns_at, adds_at}
use Rattle.turn_hall.specs.Rule.{AreCounted, KeepsTopics}
use Rattle.turn_hall.proofs.Totals.{total_set, total_same, total_append, total_has}

module _ {A : Type 0} where
  pub count_append : (f : A → Bool) (xs : List A) (x : A) → count_if f (xs ++ x ∷ []) ≡ count_if f xs + one_if (f x)
  count_append f [] x = omega arith
  count_append f (y ∷ ys) x = let r = count_append f ys x in omega arith

  count_cond : (f : A → Bool) (b : Bool) (xs ys : List A) (n : ℕ) → count_if f xs ≡ n → count_if f ys ≡ n → count_if f (cond b xs ys) ≡ n
  count_cond f true xs ys n p q = p
  count_cond f false xs ys n p q = q

  pub at_below : (l : List A) (i : ℕ) (a : A) → get_elem? l i ≡ some a → i < length l
  at_below [] i a e = absurd (some-ne-none a (sym e))
  at_below (x ∷ xs) zero a e = omega arith
  at_below (x ∷ xs) (suc i) a e = let h = at_below xs i a e in omega arith

  -- an index below the length has an element
  pub some_at : (l : List A) (i : ℕ) → i < length l → (a : A) × (get_elem? l i ≡ some a)
  some_at [] i h = absurd (omega arith)
  some_at (x ∷ xs) zero h = (x, refl)
  some_at (x ∷ xs) (suc i) h = some_at xs i (omega arith)

  -- what stands in a list stands in a longer one, and what stands there at a place of the first is that of the first
  pub prefix_at : (xs ys : List A) → IsPrefix xs ys → (i : ℕ) (a : A) → get_elem? xs i ≡ some a → get_elem? ys i ≡ some a
  prefix_at xs ys p i a e = subst (λ l. get_elem? l i ≡ some a) p.1 (at_longer xs p.0 i a e)

  pub prefix_back : (xs ys : List A) → IsPrefix xs ys → (i : ℕ) (a : A) → i < length xs → get_elem? ys i ≡ some a → get_elem? xs i ≡ some a
  prefix_back xs ys p i a lt e = let h = some_at xs i lt in h.1 ∙ ap some (some-injective h.0 a (sym (prefix_at xs ys p i h.0 h.1) ∙ e))

  -- a fact of each element, after one of them changed
  pub each_at : (P : A → Type 0) (l : List A) (i : ℕ) (w : A) → P w → ((j : ℕ) (v : A) → j ≢ i → get_elem? l j ≡ some v → P v) → (j : ℕ) (u : A) → get_elem? (set l i w) j ≡ some u → P u
  each_at P l i w here else j u e = ⊎_elim (λ t. subst P t.1 here) (λ t. else j u t.0 t.1) (at_set l i j w u e)

  pub total_both : (f : A → ℕ) (l : List A) (i j : ℕ) (v u : A) → get_elem? l i ≡ some v → get_elem? l j ≡ some u → j ≢ i → f v + f u ≤ total f l
  total_both f [] i j v u a b ne = absurd (some-ne-none v (sym a))
  total_both f (x ∷ xs) zero zero v u a b ne = absurd (ne refl)
  total_both f (x ∷ xs) zero (suc j) v u a b ne = let e : f x ≡ f v = ap f (some-injective x v a) in let h = total_has f xs j u b in omega arith
  total_both f (x ∷ xs) (suc i) zero v u a b ne = let e : f x ≡ f u = ap f (some-injective x u b) in let h = total_has f xs i v a in omega arith
  total_both f (x ∷ xs) (suc i) (suc j) v u a b ne = let h = total_both f xs i j v u a b (λ e. ne (ap suc e)) in omega arith

-- a count that is 1 or 0 is at most 1
pub once_most : (n s k : ℕ) → Once n s k → k ≤ 1
once_most n s k o = dite (dec_lt n s) (λ lt. let one = o.0 lt in omega arith) (λ ge. let z : k ≡ 0 = o.1 (omega (arith, ge)) in omega arith)

between_below : (p low high k : ℕ) → Between p low high k → 0 < k → p < high
between_below p low high k o some_there = dite (dec_lt p high) (λ h. h) (λ n. let ge : high ≤ p = omega (arith, n) in let z : k ≡ 0 = o.2 ge in absurd (omega arith))

between_one : (p low high k : ℕ) → Between p low high k → k ≤ 1
between_one p low high k o = dite (dec_lt p high)
    (λ h. dite (dec_lt p low) (λ l. let z = o.0 l in omega arith) (λ n. let ge : low ≤ p = omega (arith, n) in let z = o.1 ge h in omega arith))
    (λ n. let ge : high ≤ p = omega (arith, n) in let z : k ≡ 0 = o.2 ge in omega arith)

module _ {C B : Type 0} where
  count_insert : (f : Made C B → Bool) (m : Made C B) (xs : List (Made C B)) → count_if f (insert m xs) ≡ one_if (f m) + count_if f xs
  count_insert f m [] = refl
  count_insert f m (x ∷ xs) = let r = count_insert f m xs in count_cond f (nat_lt m.turn x.turn) (m ∷ x ∷ xs) (x ∷ insert m xs) (one_if (f m) + count_if f (x ∷ xs)) refl (omega arith)

  pub count_merged : (f : Made C B → Bool) (xs ys : List (Made C B)) → count_if f (merged xs ys) ≡ count_if f xs + count_if f ys
  count_merged f [] ys = omega arith
  count_merged f (x ∷ xs) ys = let r = count_merged f xs ys in let i = count_insert f x (merged xs ys) in omega arith

  length_cond : (b : Bool) (xs ys : List (Made C B)) (n : ℕ) → length xs ≡ n → length ys ≡ n → length (cond b xs ys) ≡ n
  length_cond true xs ys n p q = p
  length_cond false xs ys n p q = q

  length_insert : (m : Made C B) (xs : List (Made C B)) → length (insert m xs) ≡ length xs + 1
  length_insert m [] = refl
  length_insert m (x ∷ xs) = let r = length_insert m xs in length_cond (nat_lt m.turn x.turn) (m ∷ x ∷ xs) (x ∷ insert m xs) (length (x ∷ xs) + 1) (omega arith) (omega arith)

  pub length_merged : (xs ys : List (Made C B)) → length (merged xs ys) ≡ length xs + length ys
  length_merged [] ys = omega arith
  length_merged (x ∷ xs) ys = let r = length_merged xs ys in let i = length_insert x (merged xs ys) in omega arith

once_more : (n s k : ℕ) → Once n s k → Once n (s + 1) (k + one_if (s == n))
once_more n s k o = go (s == n) refl
  where
    go : (b : Bool) → (s == n) ≡ b → Once n (s + 1) (k + one_if b)
    go true is = let e : s ≡ n = grind (arith, nat_tests) in let z : k ≡ 0 = o.1 (omega arith) in ((λ _. omega arith), (λ le. absurd (omega arith)))
    go false is = let ne : s ≢ n = λ e. absurd (grind (arith, nat_tests)) in ((λ lt. let one : k ≡ 1 = o.0 (omega arith) in omega arith), (λ le. let z : k ≡ 0 = o.1 (omega arith) in omega arith))

between_more : (p low high k : ℕ) (b : Bool) → low ≤ high → Between p low high k → Between p low (high + one_if b) (k + one_if (b && (high == p)))
between_more p low high k false le o =
    ((λ lt. let z = o.0 lt in omega arith), (λ a c. let z : k ≡ 1 = o.1 a (omega arith) in omega arith), (λ c. let z : k ≡ 0 = o.2 (omega arith) in omega arith))
between_more p low high k true le o = go (high == p) refl
  where
    go : (b : Bool) → (high == p) ≡ b → Between p low (high + 1) (k + one_if b)
    go true is = let e : high ≡ p = grind (arith, nat_tests) in let z : k ≡ 0 = o.2 (omega arith) in ((λ lt. absurd (omega arith)), (λ a c. omega arith), (λ c. absurd (omega arith)))
    go false is = let ne : high ≢ p = λ e. absurd (grind (arith, nat_tests)) in
        ((λ lt. let z = o.0 lt in omega arith), (λ a c. let z : k ≡ 1 = o.1 a (omega arith) in omega arith), (λ c. let z : k ≡ 0 = o.2 (omega arith) in omega arith))

module _ {W E C B : Type 0} (topic : E → Option ℕ) (adds : C → B → Bool) (base serving : ℕ) (log : List E) where
  -- the view that has seen all is still there, or is the changed one
  whole_set : (views : List (View W E C B)) (id : ℕ) (v w : (View W E C B)) (log' : List E) → get_elem? views id ≡ some v → (v.seen ≡ log → w.seen ≡ log) → (0 < v.seats → 0 < w.seats)
      → ((i : ℕ) × (u : (View W E C B)) × (get_elem? views i ≡ some u) × (u.seen ≡ log) × (0 < u.seats))
      → (i : ℕ) × (u : (View W E C B)) × (get_elem? (set views id w) i ≡ some u) × (u.seen ≡ log) × (0 < u.seats)
  whole_set views id v w log' at keeps sits h =
      dite (ℕ_discrete h.0 id)
      (λ e. let one : v ≡ h.1 = some-injective v h.1 (sym at ∙ (ap (get_elem? views) (sym e) ∙ h.2)) in
      (id, w, set_here views id w (at_below views id v at), keeps (subst (λ (u : (View W E C B)). u.seen ≡ log) (sym one) h.3), sits (subst (λ (u : (View W E C B)). 0 < u.seats) (sym one) h.4)))
      (λ ne. (h.0, h.1, set_else views id h.0 w ne ∙ h.2, h.3, h.4))

  -- a step that makes no call
  pub book_same : (views : List (View W E C B)) (id : ℕ) (v w : (View W E C B)) → get_elem? views id ≡ some v → w.mine ≡ v.mine → length v.seen ≤ length w.seen → (v.seen ≡ log → w.seen ≡ log) → (0 < v.seats → 0 < w.seats)
      → AreCounted topic adds base serving log views → AreCounted topic adds base serving log (set views id w)
  book_same views id v w at mine more keeps sits b = record {
    many = total_same calls_of views id v w at (ap length mine) ∙ b.many;
    calls = λ n. subst (Once n serving) (sym (total_same (turns_at n) views id v w at (ap (count_if (is_turn n)) mine))) (b.calls n);
    added = λ p. subst (Between p base (length log)) (sym (total_same (adds_at adds p) views id v w at (ap (count_if (is_entry adds p)) mine))) (b.added p);
    based = b.based;
    owned = each_at (λ u. (p : ℕ) → 0 < adds_at adds p u → p < length u.seen) views id w
        (λ p h. let o = b.owned id v at p (subst (λ k. 0 < k) (ap (count_if (is_entry adds p)) mine) h) in omega arith) (λ j u ne e. b.owned j u e);
    low = b.low;
    topics = each_at (KeepsTopics topic adds log) views id w
        (λ p q e f h x y z t. subst (λ (l : List (Made C B)). 0 < count_if (is_entry adds q) l) (sym mine) (b.topics id v at p q e f (subst (λ k. 0 < k) (ap (count_if (is_entry adds p)) mine) h) x y z t)) (λ j u ne e. b.topics j u e);
    whole = whole_set views id v w log at keeps sits b.whole;
  }

  -- a step that makes one call
  pub book_more : (views : List (View W E C B)) (id : ℕ) (v w : (View W E C B)) (m : Made C B) (log' : List E) → get_elem? views id ≡ some v → w.mine ≡ v.mine ++ m ∷ [] → m.turn ≡ serving → m.at ≡ length log
      → length log' ≡ length log + one_if (adds m.call m.back) → w.seen ≡ log' → 0 < w.seats → IsPrefix log log'
      → ((e : E) (k : ℕ) → get_elem? log' (length log) ≡ some e → topic e ≡ Some k → (k ≡ length log + 1) ⊎ ((p : ℕ) × (k ≡ p + 1) × (0 < adds_at adds p v)))
      → AreCounted topic adds base serving log views → AreCounted topic adds base (serving + 1) log' (set views id w)
  book_more views id v w m log' at mine turn here more seen sits onward new b = record {
    many =
        let t = total_set calls_of views id v w at in
        let l : calls_of w ≡ calls_of v + 1 = ap length mine ∙ length-append v.mine (m ∷ []) in
        let old = b.many in omega arith;
    calls = λ n.
        let t = total_set (turns_at n) views id v w at in
        let l : turns_at n w ≡ turns_at n v + one_if (is_turn n m) = ap (count_if (is_turn n)) mine ∙ count_append (is_turn n) v.mine m in
        let sum : total (turns_at n) (set views id w) ≡ total (turns_at n) views + one_if (is_turn n m) = omega arith in
        subst (Once n (serving + 1)) (ap (λ (k : ℕ). total (turns_at n) views + one_if (k == n)) (sym turn) ∙ sym sum) (once_more n serving (total (turns_at n) views) (b.calls n));
    added = λ p.
        let t = total_set (adds_at adds p) views id v w at in
        let l : adds_at adds p w ≡ adds_at adds p v + one_if (is_entry adds p m) = ap (count_if (is_entry adds p)) mine ∙ count_append (is_entry adds p) v.mine m in
        let sum : total (adds_at adds p) (set views id w) ≡ total (adds_at adds p) views + one_if (is_entry adds p m) = omega arith in
        subst (λ (z : ℕ × ℕ). Between p base z.0 z.1)
        (λ i. (sym more i, (ap (λ (k : ℕ). total (adds_at adds p) views + one_if (adds m.call m.back && (k == p))) (sym here) ∙ sym sum) i))
        (between_more p base (length log) (total (adds_at adds p) views) (adds m.call m.back) b.based (b.added p));
    based = let old = b.based in omega arith;
    owned = each_at (λ u. (p : ℕ) → 0 < adds_at adds p u → p < length u.seen) views id w
        (λ p h. subst (λ z. p < length z) (sym seen) (mine_below p h)) (λ j u ne e. b.owned j u e);
    low = λ q k f x t. dite (dec_lt q (length log))
        (λ lt. b.low q k f (prefix_back log log' onward q f lt x) t)
        (λ ge. let q_is : q ≡ length log = last q f ge x in
        ⊎_elim (λ e. omega arith) (λ o. let lt = below o.0 v id at o.2 in let e = o.1 in omega arith) (new f k (subst (λ z. get_elem? log' z ≡ some f) q_is x) t));
    topics = each_at (KeepsTopics topic adds log') views id w
        (λ p q e f h x y z t. dite (dec_lt p (length log))
        (λ lt. let old : 0 < adds_at adds p v = old_there p lt h in
        dite (dec_lt q (length log))
        (λ ltq. let g = b.topics id v at p q e f old (prefix_back log log' onward p e lt x) y (prefix_back log log' onward q f ltq z) t in let c = counts q in omega arith)
        (λ geq. here_there q f geq z))
        (λ ge. let p_is : p ≡ length log = last p e ge x in
        dite (dec_lt q (length log))
        (λ ltq. let l = b.low q (p + 1) f (prefix_back log log' onward q f ltq z) t in absurd (omega arith))
        (λ geq. here_there q f geq z)))
        (λ j u ne a p q e f h x y z t.
        let lt = below p u j a h in
        dite (dec_lt q (length log))
        (λ ltq. b.topics j u a p q e f h (prefix_back log log' onward p e lt x) y (prefix_back log log' onward q f ltq z) t)
        (λ geq. let q_is : q ≡ length log = last q f geq z in
        ⊎_elim (λ n. absurd (omega arith))
        (λ o. let p_is : p ≡ o.0 = (let i = o.1 in omega arith) in
        let theirs : 0 < adds_at adds p v = subst (λ k. 0 < adds_at adds k v) (sym p_is) o.2 in
        let two = total_both (adds_at adds p) views id j v u at a ne in
        let one = between_one p base (length log) (total (adds_at adds p) views) (b.added p) in absurd (omega arith))
        (new f (p + 1) (subst (λ k. get_elem? log' k ≡ some f) q_is z) t)));
    whole = (id, w, set_here views id w (at_below views id v at), seen, sits);
  }
    where
      counts : (p : ℕ) → adds_at adds p w ≡ adds_at adds p v + one_if (is_entry adds p m)
      counts p = ap (count_if (is_entry adds p)) mine ∙ count_append (is_entry adds p) v.mine m

      below : (p : ℕ) (u : (View W E C B)) (j : ℕ) → get_elem? views j ≡ some u → 0 < adds_at adds p u → p < length log
      below p u j a h = let t = total_has (adds_at adds p) views j u a in between_below p base (length log) (total (adds_at adds p) views) (b.added p) (omega arith)

      not_here : (p : ℕ) (x : Bool) → p < length log → one_if (x && (m.at == p)) ≡ 0
      not_here p false lt = refl
      not_here p true lt = let ne : (m.at == p) ≡ false = grind (arith, nat_tests, here) in ap one_if ne

      old_there : (p : ℕ) → p < length log → 0 < adds_at adds p w → 0 < adds_at adds p v
      old_there p lt h = let c = counts p in let z = not_here p (adds m.call m.back) lt in omega arith

      at_most : (x : Bool) → one_if x ≤ 1
      at_most true = omega arith
      at_most false = omega arith

      last : (q : ℕ) (f : E) → ¬ (q < length log) → get_elem? log' q ≡ some f → q ≡ length log
      last q f ge x = let l = at_below log' q f x in let o : one_if (adds m.call m.back) ≤ 1 = at_most (adds m.call m.back) in let s = more in omega (arith, ge)

      added_one : (x : Bool) (q : ℕ) → 0 < one_if x → m.at ≡ q → one_if (x && (m.at == q)) ≡ 1
      added_one true q h e = let i : (m.at == q) ≡ true = grind (arith, nat_tests) in ap one_if i
      added_one false q h e = absurd (omega arith)

      here_there : (q : ℕ) (f : E) → ¬ (q < length log) → get_elem? log' q ≡ some f → 0 < adds_at adds q w
      here_there q f ge x =
          let q_is : q ≡ length log = last q f ge x in
          let l = at_below log' q f x in
          let s = more in
          let added : 0 < one_if (adds m.call m.back) = omega arith in
          let o = added_one (adds m.call m.back) q added (here ∙ sym q_is) in
          let c = counts q in omega arith

      none_or : (p : ℕ) (x y : Bool) → ¬ (p < length log) → 0 < adds_at adds p w → adds m.call m.back ≡ x → (m.at == p) ≡ y → p < length log'
      none_or p true true ge h ex ey = let one : length log' ≡ length log + 1 = more ∙ ap (λ (z : Bool). length log + one_if z) ex in let e : m.at ≡ p = grind (arith, nat_tests) in let e2 = here in omega arith
      none_or p true false ge h ex ey = let z : adds_at adds p w ≡ adds_at adds p v + 0 = counts p ∙ ap (λ (q : Bool × Bool). adds_at adds p v + one_if (q.0 && q.1)) (λ i. (ex i, ey i)) in absurd (ge (below p v id at (omega arith)))
      none_or p false y ge h ex ey = let z : adds_at adds p w ≡ adds_at adds p v + 0 = counts p ∙ ap (λ (q : Bool). adds_at adds p v + one_if (q && (m.at == p))) ex in absurd (ge (below p v id at (omega arith)))

      mine_below : (p : ℕ) → 0 < adds_at adds p w → p < length log'
      mine_below p h = dite (dec_lt p (length log)) (λ lt. let l = more in omega arith) (λ ge. none_or p (adds m.call m.back) (m.at == p) ge h refl refl)

  -- a view is cut in two
  pub book_split : (views : List (View W E C B)) (id : ℕ) (v w u : (View W E C B)) → get_elem? views id ≡ some v → w.mine ≡ v.mine → w.seen ≡ v.seen → (0 < v.seats → 0 < w.seats) → u.mine ≡ []
      → AreCounted topic adds base serving log views → AreCounted topic adds base serving log (set views id w ++ u ∷ [])
  book_split views id v w u at mine seen sits none b =
      let c = book_same views id v w at mine (le_of_eq (sym (ap length seen))) (λ e. seen ∙ e) sits b in
      let none_more : (f : (View W E C B) → ℕ) → f u ≡ 0 → total f (set views id w ++ u ∷ []) ≡ total f (set views id w) = λ f z. let t = total_append f (set views id w) u in omega arith in
      record {
        many = none_more calls_of (ap length none) ∙ c.many;
        calls = λ n. subst (Once n serving) (sym (none_more (turns_at n) (ap (count_if (is_turn n)) none))) (c.calls n);
        added = λ p. subst (Between p base (length log)) (sym (none_more (adds_at adds p) (ap (count_if (is_entry adds p)) none))) (c.added p);
        based = c.based;
        owned = λ j x e p h. ⊎_elim (λ a. c.owned j x a p h) (λ (a : u ≡ x). absurd (no_adds p (subst (λ z. 0 < adds_at adds p z) (sym a) h))) (at_snoc (set views id w) u x j e);
        low = c.low;
        topics = λ j x e. ⊎_elim (λ a. c.topics j x a) (λ (a : u ≡ x). λ p q y f h. absurd (no_adds p (subst (λ z. 0 < adds_at adds p z) (sym a) h))) (at_snoc (set views id w) u x j e);
        whole = let h = c.whole in (h.0, h.1, at_longer (set views id w) (u ∷ []) h.0 h.1 h.2, h.3, h.4);
      }
    where
      no_adds : (p : ℕ) → 0 < adds_at adds p u → ⊥
      no_adds p h = let z : adds_at adds p u ≡ 0 = ap (count_if (is_entry adds p)) none in omega arith
