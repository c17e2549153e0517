-- Each step keeps the rule of a pool.
use Rattle.std.proofs.Common.{◌≡◌, ◌≢◌, ℕ, zero, suc, ◌+◌, ◌-◌, ◌<◌, ◌≤◌, ◌==◌, Bool, true, false, List, [], ◌∷◌, ◌++◌, set, length, length-append, append_assoc, append-nil, refl, sym, ap, ◌∙◌, subst, ⊎_elim, inl, inr, Result, Ok, Err, MatchResult, Option, Some, None, MatchOption, ◌⊎◌, arith}
use native.Mathlib.Decide.{ℕ_discrete, dec_lt}
use mathlib.Core.Logic.{dite}
use mathlib.Core.Option.{some, some-ne-none}
use lib.ListN.{get_elem?}
use Rattle.crossbeam_queue.specs.Fifo.{Pushes, Pops, Forks, Merges, Learns, Held}
use Rattle.crossbeam_queue.proofs.Lists.{at_set, at_snoc, at_longer, set_else}
use Rattle.link_pool.specs.declared.views.Passed.{Passed}
use Rattle.link_pool.specs.declared.views.PoolView.{PoolView}
use Rattle.link_pool.specs.Entries.{total, one_if, Between, passed, numbered, RisesFrom, count_of, merged}
use Rattle.link_pool.specs.Pooled.{with_put, with_got, keeping, single, joined, spent, parts_of, door_of, got_at, whole, HasPutAll, IsOut, Fits, Pooled, IsBack, IsEmptied, TakesNext, Stays}
use Rattle.link_pool.proofs.Totals.{total_set, total_same, total_append, total_has, total_alone, total_only}
use Rattle.link_pool.proofs.Entries.{each_merged, each_snoc, count_merged, count_snoc, one_here, one_else, rises_few, rises_merged, rises_snoc, numbered_snoc, numbered_length, all_numbered}

bool_not : (b : Bool) → one_if b ≡ 0 → b ≡ false
bool_not true e = absurd (omega (arith, e))
bool_not false e = refl

false-ne-true : (b : Bool) → b ≡ false → b ≡ true → ⊥
false-ne-true true f t = absurd cc
false-ne-true false f t = absurd cc

same_or : (n k : ℕ) → ((n ≡ k) × (one_if (n == k) ≡ 1)) ⊎ ((n ≢ k) × (one_if (n == k) ≡ 0))
same_or n k = dite (ℕ_discrete n k) (λ e. inl (e, subst (λ y. one_if (n == y) ≡ 1) e (one_here n))) (λ ne. inr (ne, one_else n k ne))

between_most : (n t low high : ℕ) → Between n low high t → t ≤ 1
between_most n t low high b = dite (dec_lt n low) (λ lt. let z = b.0 lt in omega arith)
    (λ ge. dite (dec_lt n high) (λ lt. let o = b.1 (omega (arith, ge)) lt in omega arith) (λ ge'. let z = b.2 (omega (arith, ge')) in omega arith))

module _ {L : Type 0} where
  abbrev All : (PoolView L → Type 0) → List (PoolView L) → Type 0
  All F views = (i : ℕ) (v : PoolView L) → get_elem? views i ≡ some v → F v

  each_set : (F : PoolView L → Type 0) (views : List (PoolView L)) (id : ℕ) (w : PoolView L) → F w → ((j : ℕ) (u : PoolView L) → j ≢ id → get_elem? views j ≡ some u → F u) → All F (set views id w)
  each_set F views id w mine others j u e = ⊎_elim (λ (x : (j ≡ id) × (w ≡ u)). subst F x.1 mine) (λ (x : (j ≢ id) × (get_elem? views j ≡ some u)). others j u x.0 x.1) (at_set views id j w u e)

  -- a view that isn't the door
  abbrev Plain : ℕ → List L → PoolView L → Type 0
  Plain out log u = (u.door ≡ false) × Fits out log u

  -- where this view is the door, no other is
  apart : (views : List (PoolView L)) (id : ℕ) (v : PoolView L) → total door_of views ≡ 1 → get_elem? views id ≡ some v → v.door ≡ true → (j : ℕ) (u : PoolView L) → j ≢ id → get_elem? views j ≡ some u → u.door ≡ false
  apart views id v one at is j u ne atj =
      let d : door_of v ≡ 1 = ap one_if is in
      bool_not u.door (total_alone door_of views id j v u at atj (λ e. ne (sym e)) (d ∙ sym one))

  at_middle : (gone : List L) (x : L) (items : List L) → get_elem? (gone ++ x ∷ items) (length gone) ≡ some x
  at_middle [] x items = refl
  at_middle (y ∷ ys) x items = at_middle ys x items

  out_longer : (out : ℕ) (log more : List L) (e : Passed L) → IsOut out log e → IsOut out (log ++ more) e
  out_longer out log more e o = (o.0, o.1, o.2, at_longer log more o.0 e.link o.3)

  out_more : (out : ℕ) (log : List L) (e : Passed L) → IsOut out log e → IsOut (out + 1) log e
  out_more out log e o = (o.0, o.1, (let lt = o.2 in omega arith), o.3)

  -- two views have no more than all
  total_two : (f : PoolView L → ℕ) (views : List (PoolView L)) (i j : ℕ) (v u w : PoolView L) → get_elem? views i ≡ some v → get_elem? views j ≡ some u → i ≢ j → f w ≡ 0 → f v + f u ≤ total f views
  total_two f views i j v u w ai aj ne none =
      let s = total_set f views i v w ai in
      let there : get_elem? (set views i w) j ≡ some u = set_else views i j w (λ e. ne (sym e)) ∙ aj in
      let t = total_has f (set views i w) j u there in omega arith

  pub pushes : (n id : ℕ) (v : PoolView L) (x : L) → v.door ≡ true → Pushes Pooled n id v x (λ w. w ≡ with_put v x)
  pushes n id v x is items views room h at =
      let w = with_put v x in
      let mine = h.each id v at in
      let log : List L = h.gone ++ items in
      let grown : log ++ x ∷ [] ≡ h.gone ++ (items ++ x ∷ []) = append_assoc h.gone items (x ∷ []) in
      let put : v.put ≡ numbered 1 log = mine.door is in
      let len : length v.put ≡ length log = ap length put ∙ numbered_length 1 log in
      let here : Fits (length h.gone) (log ++ x ∷ []) w = record {
        door = λ _. (λ i. put i ++ passed (length v.put + 1) x ∷ []) ∙ ap (λ k. numbered 1 log ++ passed k x ∷ []) (next (length v.put) (length log) len) ∙ sym (numbered_snoc 1 log x);
        others = λ no. absurd (false-ne-true v.door no is);
        took = λ k e a. out_longer (length h.gone) log (x ∷ []) e (mine.took k e a);
        rises = mine.rises;
        idle = mine.idle;
      } in (
        w,
        record {
          gone = h.gone;
          each = subst (λ l. All (Fits (length h.gone) l) (set views id w)) grown (each_set (Fits (length h.gone) (log ++ x ∷ [])) views id w here
              (λ j u ne a. let old = h.each j u a in let no = apart views id v h.doors at is j u ne a in record {
                door = λ yes. absurd (false-ne-true u.door no yes);
                others = old.others;
                took = λ k e b. out_longer (length h.gone) log (x ∷ []) e (old.took k e b);
                rises = old.rises;
                idle = old.idle;
              }));
          doors = total_same door_of views id v w at refl ∙ h.doors;
          got = λ k. subst (λ t. Between k 1 (length h.gone + 1) t) (sym (total_same (got_at k) views id v w at refl)) (h.got k);
          parts = total_same parts_of views id v w at refl ∙ h.parts;
        },
        refl,
      )
    where
      next : (a b : ℕ) → a ≡ b → a + 1 ≡ 1 + b
      next a b e = omega arith

  at_front : (gone items : List L) (m : ℕ) (x : L) → m < length gone → get_elem? (gone ++ items) m ≡ some x → get_elem? gone m ≡ some x
  at_front [] items m x lt a = absurd (omega arith)
  at_front (y ∷ gone) items zero x lt a = a
  at_front (y ∷ gone) items (suc m) x lt a = at_front gone items m x (omega arith) a

  -- a view that has got some links has got no more than were got
  got_few : (out : ℕ) (log : List L) (v : PoolView L) → Fits out log v → length v.got ≤ out
  got_few out log v f =
      let few : 1 + length v.got ≤ out + 1 = rises_few 1 (out + 1) v.got (omega arith) (λ j e a. (let o = f.took j e a in let is = o.1 in let lt = o.2 in omega arith)) f.rises in omega arith

  -- a view with all parts is the door, and has got all that was got
  all_got : (id : ℕ) (v : PoolView L) (items : List L) (views : List (PoolView L)) (h : Pooled items views) → get_elem? views id ≡ some v → v.parts ≡ whole → (v.got ≡ numbered 1 h.gone) × (v.door ≡ true)
  all_got id v items views h at all =
      let mine = h.each id v at in
      let idle : (j : ℕ) (u : PoolView L) → j ≢ id → get_elem? views j ≡ some u → (u.got ≡ []) × (u.door ≡ false) = λ j u ne a.
      (h.each j u a).idle (total_alone parts_of views id j v u at a (λ e. ne (sym e)) (all ∙ sym h.parts)) in
      let door : door_of v ≡ 1 = sym (total_only door_of views id v at (λ j u ne a. ap one_if (idle j u ne a).1)) ∙ h.doors in
      let count : (n : ℕ) → Between n 1 (length h.gone + 1) (count_of n v.got) = λ n.
      subst (λ t. Between n 1 (length h.gone + 1) t) (total_only (got_at n) views id v at (λ j u ne a. ap (count_of n) (idle j u ne a).0)) (h.got n) in (
        all_numbered 1 h.gone v.got mine.rises (λ n low lt. (count n).1 low (omega arith)) (λ n le. (count n).2 (omega arith))
            (λ j e a. let o = mine.took j e a in (o.0, omega (arith, o.1), at_front h.gone items o.0 e.link o.2 o.3)),
        bool_is v.door door,
      )
    where
      bool_is : (b : Bool) → one_if b ≡ 1 → b ≡ true
      bool_is true e = refl
      bool_is false e = absurd (omega (arith, e))

  pub backs : (id : ℕ) (v : PoolView L) → v.door ≡ true → Learns Pooled id v (IsBack v)
  backs id v is items views h at =
      let mine = h.each id v at in
      (h.gone, mine.door is, got_few (length h.gone) (h.gone ++ items) v mine, λ all. (all_got id v items views h at all).0)

  pub gets : (id : ℕ) (v : PoolView L) → 0 < v.parts → Pops Pooled id v (λ x w. TakesNext v x w)
  gets id v some_part x items views h at =
      let out = length h.gone in
      let n = out + 1 in
      let w = with_got v n x in
      let mine = h.each id v at in
      let log : List L = h.gone ++ x ∷ items in
      let same : log ≡ (h.gone ++ x ∷ []) ++ items = sym (append_assoc h.gone (x ∷ []) items) in
      let len : length (h.gone ++ x ∷ []) ≡ out + 1 = length-append h.gone (x ∷ []) in
      let rises : RisesFrom 1 (v.got ++ passed n x ∷ []) = rises_snoc 1 n v.got x (omega arith) (λ j e a. let o = mine.took j e a in let lt = o.2 in let is = o.1 in omega arith) mine.rises in
      let here : Fits (out + 1) log w = record {
        door = mine.door;
        others = mine.others;
        took = each_snoc (IsOut (out + 1) log) v.got (passed n x) (λ j e a. out_more out log e (mine.took j e a)) (out, refl, omega arith, at_middle h.gone x items);
        rises = rises;
        idle = λ none. absurd (omega arith);
      } in (
        w,
        record {
          gone = h.gone ++ x ∷ [];
          each = subst (λ (y : ℕ × List L). All (Fits y.0 y.1) (set views id w)) (λ i. (sym len i, same i)) (each_set (Fits (out + 1) log) views id w here
              (λ j u ne a. let old = h.each j u a in record {
                door = old.door;
                others = old.others;
                took = λ k e b. out_more out log e (old.took k e b);
                rises = old.rises;
                idle = old.idle;
              }));
          doors = total_same door_of views id v w at refl ∙ h.doors;
          got = λ k. subst (λ m. Between k 1 (m + 1) (total (got_at k) (set views id w))) (sym len)
              (counted k out (total (got_at k) views) (total (got_at k) (set views id w)) (got_at k v) (got_at k w) (h.got k) (total_set (got_at k) views id v w at) (count_snoc k v.got (passed n x)));
          parts = total_same parts_of views id v w at refl ∙ h.parts;
        },
        (n, rises, refl),
      )
    where
      below : (k out : ℕ) → (out + 1) ≢ k → k < out + 1 + 1 → k < out + 1
      below k out ne lt = omega (arith, ne)

      counted : (k out a b c d : ℕ) → Between k 1 (out + 1) a → b + c ≡ a + d → d ≡ c + one_if ((out + 1) == k) → Between k 1 (out + 1 + 1) b
      counted k out a b c d old sum more = ⊎_elim
          (λ (o : ((out + 1) ≡ k) × (one_if ((out + 1) == k) ≡ 1)). let e = o.0 in let one = o.1 in let z : a ≡ 0 = old.2 (omega arith) in ((λ lt. absurd (omega arith)), (λ le lt. omega arith), λ le. absurd (omega arith)))
          (λ (o : ((out + 1) ≢ k) × (one_if ((out + 1) == k) ≡ 0)). let ne = o.0 in let none = o.1 in let same : b ≡ a = omega arith in
          ((λ lt. let z = old.0 lt in omega arith), (λ le lt. let one = old.1 le (below k out ne lt) in omega arith), λ le. let z = old.2 (omega arith) in omega arith))
          (same_or (out + 1) k)

  pub empties : (id : ℕ) (v : PoolView L) → Learns Pooled id v (IsEmptied v)
  empties id v items views h at none all =
      let got = all_got id v items views h at all in
      let log : h.gone ++ items ≡ h.gone = ap (λ l. h.gone ++ l) none ∙ append-nil h.gone in
      got.0 ∙ ap (numbered 1) (sym log) ∙ sym ((h.each id v at).door got.1)

  pub forks : (id : ℕ) (v : PoolView L) → 1 < v.parts → Forks Pooled id v (keeping v) single
  forks id v two items views h at =
      let left = keeping v in
      let log : List L = h.gone ++ items in
      let mine = h.each id v at in
      let vs : List (PoolView L) = set views id left in
      let here : Fits (length h.gone) log left = record { door = mine.door; others = mine.others; took = mine.took; rises = mine.rises; idle = λ z. absurd (none v.parts two z) } in
      let right : Fits (length h.gone) log single = record { door = λ is. absurd (false-ne-true false refl is); others = λ _. refl; took = λ k e a. absurd (some-ne-none e (sym a)); rises = tt; idle = λ z. absurd (omega (arith, z)) } in
      let all : All (Fits (length h.gone) log) vs = each_set (Fits (length h.gone) log) views id left here (λ j u ne a. h.each j u a) in
      record {
        gone = h.gone;
        each = λ j u e. ⊎_elim (λ a. all j u a) (λ (a : single ≡ u). subst (Fits (length h.gone) log) a right) (at_snoc vs single u j e);
        doors = (let t = total_append door_of vs single in let s = total_same door_of views id v left at refl in let d = h.doors in omega arith);
        got = λ k. subst (λ t. Between k 1 (length h.gone + 1) t) (sum k (total (got_at k) views) (total (got_at k) vs) (total (got_at k) (vs ++ single ∷ [])) (total_same (got_at k) views id v left at refl) (total_append (got_at k) vs single)) (h.got k);
        parts = (let t = total_append parts_of vs single in let s = total_set parts_of views id v left at in let p = h.parts in omega arith);
      }
    where
      none : (p : ℕ) → 1 < p → p - 1 ≡ 0 → ⊥
      none p two z = omega arith

      sum : (k a b c : ℕ) → b ≡ a → c ≡ b + 0 → a ≡ c
      sum k a b c e f = omega arith

  pub merges : (id : ℕ) (v : PoolView L) (other : ℕ) (u : PoolView L) → 0 < v.parts → u.door ≡ false → Merges Pooled id v other u (joined v u) spent
  merges id v other u some_part plain items views h at ne at' =
      let both = joined v u in
      let log : List L = h.gone ++ items in
      let out = length h.gone in
      let vs : List (PoolView L) = set views id both in
      let mine = h.each id v at in
      let was : get_elem? views other ≡ some u = ⊎_elim (λ x. absurd (ne x.0)) (λ x. x.1) (at_set views id other both u at') in
      let theirs = h.each other u was in
      let once : (n : ℕ) → count_of n v.got + count_of n u.got ≤ 1 = λ n. at_most n (total (got_at n) views) (count_of n v.got) (count_of n u.got) out (h.got n) (total_two (got_at n) views id other v u spent at was (λ e. ne (sym e)) refl) in
      let here : Fits out log both = record {
        door = mine.door;
        others = mine.others;
        took = each_merged (IsOut out log) v.got u.got mine.took theirs.took;
        rises = rises_merged v.got u.got once mine.rises theirs.rises;
        idle = λ z. absurd (omega arith);
      } in
      let none : Fits out log spent = record { door = λ is. absurd (false-ne-true false refl is); others = λ _. refl; took = λ k e a. absurd (some-ne-none e (sym a)); rises = tt; idle = λ _. (refl, refl) } in
      let all : All (Fits out log) vs = each_set (Fits out log) views id both here (λ j w ne' a. h.each j w a) in
      record {
        gone = h.gone;
        each = each_set (Fits out log) vs other spent none (λ j w ne' a. all j w a);
        doors = (let s = total_same door_of views id v both at refl in let t = total_set door_of vs other u spent at' in let z : door_of u ≡ 0 = ap one_if plain in let d = h.doors in omega arith);
        got = λ k. subst (λ t. Between k 1 (out + 1) t) (sum (total (got_at k) views) (total (got_at k) vs) (total (got_at k) (set vs other spent)) (count_of k v.got) (count_of k u.got) (count_of k (merged v.got u.got)) (total_set (got_at k) views id v both at) (total_set (got_at k) vs other u spent at') (count_merged k v.got u.got)) (h.got k);
        parts = (let s = total_set parts_of views id v both at in let t = total_set parts_of vs other u spent at' in let p = h.parts in omega arith);
      }
    where
      sum : (a b c p q m : ℕ) → b + p ≡ a + m → c + q ≡ b + 0 → m ≡ p + q → a ≡ c
      sum a b c p q m e f g = omega arith

      at_most : (n t p q out : ℕ) → Between n 1 (out + 1) t → p + q ≤ t → p + q ≤ 1
      at_most n t p q out b le = let m = between_most n t 1 (out + 1) b in omega arith

  -- a pool that held so many links at the end of what the door has put got at least so many from it, beside those that the door has got
  pub has_put_all : (n : ℕ) (v : PoolView L) → Held n (IsBack v) → HasPutAll n v
  has_put_all n v h =
      let items = h.0 in
      let gone = h.2.0 in
      let long : length v.put ≡ length (gone ++ items) = ap length h.2.1 ∙ numbered_length 1 (gone ++ items) in
      let both = length-append gone items in
      let held = h.1 in
      let few = h.2.2 in
      record {
        put = omega arith;
        full = λ all. (let got : length v.got ≡ length gone = ap length (h.2.3 all) ∙ numbered_length 1 gone in omega arith);
      }

  -- a take leaves all but what was got as it was
  pub stays : (X : Type 0) (v w : PoolView L) (r : Option L) → MatchOption r ((w ≡ v) × X) (λ x. TakesNext v x w) → Stays v w
  stays X v w None m = (ap (λ u. u.door) m.0, ap (λ u. u.parts) m.0, ap (λ u. u.put) m.0)
  stays X v w (Some x) m = (ap (λ u. u.door) m.2, ap (λ u. u.parts) m.2, ap (λ u. u.put) m.2)

-- what holds at an error, and what follows from it
pub at_error : {A E : Type 0} (P : A → Type 0) (Q R : E → Type 0) (r : Result A E) → MatchResult r P Q → ((e : E) → Q e → R e) → MatchResult r P R
at_error P Q R (Ok x) m f = m
at_error P Q R (Err e) m f = f e m
