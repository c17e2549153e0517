-- A split and a join keep the rule.
use Rattle.std.proofs.Common.{◌≡◌, ℕ, ◌+◌, ◌<◌, ◌≤◌, Bool, false, List, [], ◌∷◌, ◌++◌, set, length, refl, sym, ap, ◌∙◌, subst, inl, inr, ⊎_elim, arith, Option, Some, None, zero-le}
use native.Mathlib.Decide.{ℕ_discrete, dec_lt}
use mathlib.Core.Logic.{dite}
use mathlib.Core.List.{IsPrefix}
use mathlib.Core.Option.{some, some-injective, some-ne-none}
use lib.ListN.{get_elem?}
use Rattle.atomic_table.specs.Table.{State, Splits, Joins}
use Rattle.atomic_table.proofs.Lists.{at_snoc, set_here, set_else, at_longer}
use Rattle.turn_hall.specs.declared.view.View.{View}
use Rattle.turn_hall.specs.declared.view.InSlot.{InSlot}
use Rattle.turn_hall.specs.Lists.{total, count_if, Once, Between}
use Rattle.turn_hall.specs.Calls.{merged, is_turn, is_entry}
use Rattle.turn_hall.specs.Views.{waiting, seats_of, calls_of, turns_at, adds_at, count_of, keeping, told_of, joined, blank}
use Rattle.turn_hall.specs.Rule.{WasKept, KeepsTopics, IsTrueView, LiesInSlot, KeepsRule}
use Rattle.turn_hall.proofs.Totals.{total_set, total_same, total_append}
use Rattle.turn_hall.proofs.Merges.{each_merged, rises_merged, longer_saw, shorter_saw, longer_whole, longer_length}
use Rattle.turn_hall.proofs.Books.{at_below, total_both, once_most, book_split, count_merged, length_merged}
use Rattle.turn_hall.proofs.Moves.{each_set, apart_set, lies_same, false-ne-true}

module _ {T W E C B : Type 0} (history : T → List E) (right : Option W → T → Type 0) (o : Option W) (plays : List E → C → B → List E → Type 0) (topic : E → Option ℕ) (adds : C → B → Bool) (begun : List E) where
  abbrev V : Type 0
  V = View W E C B

  abbrev S : Type 0
  S = Option (InSlot T C B)

  -- a fact of each view, after one came
  each_more : (P : V → Type 0) (views : List V) (u : V) → P u → ((i : ℕ) (v : V) → get_elem? views i ≡ some v → P v) → (i : ℕ) (w : V) → get_elem? (views ++ u ∷ []) i ≡ some w → P w
  each_more P views u here all i w e = ⊎_elim (λ a. all i w a) (λ (a : u ≡ w). subst P a here) (at_snoc views u w i e)

  pub splits : (all id k j : ℕ) (v : V) → v.ticket ≡ None → v.in_turn ≡ false → k + j ≡ v.seats → 0 < k → Splits (KeepsRule history right o plays topic adds all begun) id v (keeping v k) (told_of v j)
  splits all id k j v rest out sum some_left s r at =
      let w : V = keeping v k in
      let u : V = told_of v j in
      let mine = r.each id v at in
      let old : List V = set s.views id w in
      let sets = total_set seats_of s.views id v w at in
      let more = total_append seats_of old u in
      let waits = total_same waiting s.views id v w at refl in
      let waits_more = total_append waiting old u in
      let c0 = r.counted in
      let s0 = r.shared in
      let none_waits : waiting v ≡ 0 = ap count_of rest in
      let fits = each_set history right o plays topic adds begun (IsTrueView (WasKept history right o) plays o r.ticket r.serving r.log) s.views id w
      record { sited = λ _. mine.sited (omega arith); bounds = mine.bounds; turn = mine.turn; seated = omega arith; known = mine.known; saw = mine.saw; lawful = λ _. mine.lawful (omega arith); listened = mine.listened; answers = mine.answers; rises = mine.rises; spare = λ z. absurd (omega (arith, z)) }
      (λ i x other here. r.each i x here) in
      record {
        ticket = r.ticket;
        serving = r.serving;
        log = r.log;
        words = r.words;
        lies = lies_more (lies_same history right o plays topic adds begun s.homes s.views r.log id v w at out out r.lies);
        counted = omega arith;
        apart = λ i j x y t ati atj hx hy. ⊎_elim
            (λ a. ⊎_elim (λ b. apart_set history right o plays topic adds begun s.views id w r.apart (λ i x t other here same had. absurd (none_some t (sym rest ∙ same))) i j x y t a b hx hy)
            (λ (b : u ≡ y). absurd (none_some t (ap (λ (z : V). z.ticket) b ∙ hy))) (at_snoc old u y j atj))
            (λ (a : u ≡ x). absurd (none_some t (ap (λ (z : V). z.ticket) a ∙ hx))) (at_snoc old u x i ati);
        each = each_more (IsTrueView (WasKept history right o) plays o r.ticket r.serving r.log) old u
            record { sited = λ _. mine.sited (omega arith); bounds = λ t e. absurd (none_some t e); turn = λ e. absurd (false-ne-true e); seated = zero-le; known = mine.known; saw = mine.saw; lawful = λ _. mine.lawful (omega arith); listened = (r.log, refl); answers = λ k m e. absurd (some-ne-none m (sym e)); rises = tt; spare = λ _. refl }
            fits;
        book = book_split topic adds (length begun) r.serving r.log s.views id v w u at refl refl (λ _. some_left) refl r.book;
        shared = omega arith;
        few = r.few;
        low = r.low;
        begins = r.begins;
      }
    where
      none_some : (t : ℕ) → None ≡ Some t → ⊥
      none_some t e = absurd cc

      lies_more : LiesInSlot history (right o) s.homes (set s.views id (keeping v k)) r.log → LiesInSlot history (right o) s.homes (set s.views id (keeping v k) ++ told_of v j ∷ []) r.log
      lies_more (inl h) = inl (h.0, h.1, h.2, each_more (λ x. x.in_turn ≡ false) (set s.views id (keeping v k)) (told_of v j) refl h.3, h.4)
      lies_more (inr h) = inr (h.0, (h.1.0, h.1.1, at_longer (set s.views id (keeping v k)) (told_of v j ∷ []) h.1.0 h.1.1 h.1.2, h.1.3))

  module _ (s : State S V) (id other : ℕ) (v w : V) where
    -- a fact of each view, after two were put in one
    each_join : (P : V → Type 0) → P (joined v w) → P blank → ((i : ℕ) (x : V) → get_elem? s.views i ≡ some x → P x) → (i : ℕ) (x : V) → get_elem? (set (set s.views id (joined v w)) other blank) i ≡ some x → P x
    each_join P here empty all = each_set history right o plays topic adds begun P (set s.views id (joined v w)) other blank empty (λ i x ne e. each_set history right o plays topic adds begun P s.views id (joined v w) here (λ j y _ a. all j y a) i x e)

    -- a sum over the views, after two were put in one
    sum_join : (f : V → ℕ) → get_elem? s.views id ≡ some v → get_elem? (set s.views id (joined v w)) other ≡ some w → f (joined v w) ≡ f v + f w → f blank ≡ 0
        → total f (set (set s.views id (joined v w)) other blank) ≡ total f s.views
    sum_join f at too two zero_of =
        let a = total_set f s.views id v (joined v w) at in
        let b = total_set f (set s.views id (joined v w)) other w blank too in
        omega arith

  pub joins : (all id : ℕ) (v : V) (other : ℕ) (w : V) → v.ticket ≡ None → v.in_turn ≡ false → w.ticket ≡ None → w.in_turn ≡ false → 0 < v.seats → 0 < w.seats
      → Joins (KeepsRule history right o plays topic adds all begun) id v other w (joined v w) blank
  joins all id v other w rest out rest' out' some_seat some_seat' s r at apart too =
      let u : V = joined v w in
      let mid : List V = set s.views id u in
      let there : get_elem? s.views other ≡ some w = sym (set_else s.views id other u apart) ∙ too in
      let mine = r.each id v at in
      let theirs = r.each other w there in
      let one_each : (n : ℕ) → count_if (is_turn n) (merged v.mine w.mine) ≤ 1 = λ n.
      let c = count_merged (is_turn n) v.mine w.mine in
      let two = total_both (turns_at n) s.views id other v w at there apart in
      let most = once_most n r.serving (total (turns_at n) s.views) (r.book.calls n) in
      omega arith in
      let none_waits : count_of v.ticket ≡ 0 = ap count_of rest in
      let none_waits' : count_of w.ticket ≡ 0 = ap count_of rest' in
      let c0 = r.counted in
      let waits = sum_join s id other v w waiting at too (omega arith) refl in
      let shares = sum_join s id other v w seats_of at too refl refl in
      let s0 = r.shared in
      let fits = each_join s id other v w (IsTrueView (WasKept history right o) plays o r.ticket r.serving r.log)
      record {
        sited = λ _. mine.sited some_seat;
        bounds = mine.bounds;
        turn = λ e. absurd (false-ne-true (sym out ∙ e));
        seated = omega arith;
        known = let a = mine.known in let b = theirs.known in omega arith;
        saw = longer_saw (λ z. IsPrefix z r.log) v.seen w.seen mine.saw theirs.saw;
        lawful = λ _. longer_saw (WasKept history right o) v.seen w.seen (mine.lawful some_seat) (theirs.lawful some_seat');
        listened = shorter_saw (λ z. IsPrefix z r.log) v.seen w.seen mine.saw theirs.saw;
        answers = each_merged (λ m. (m.turn < r.serving) × ((h : List E) × (h' : List E) × IsPrefix h' r.log × (length h ≡ m.at) × plays h m.call m.back h')) v.mine w.mine mine.answers theirs.answers;
        rises = rises_merged v.mine w.mine mine.rises theirs.rises one_each;
        spare = λ z. absurd (omega (arith, z));
      }
      record { sited = λ z. absurd (omega arith); bounds = λ t e. absurd (none_some t e); turn = λ e. absurd (false-ne-true e); seated = zero-le; known = zero-le; saw = (r.log, refl); lawful = λ z. absurd (omega arith); listened = (r.log, refl); answers = λ k m e. absurd (some-ne-none m (sym e)); rises = tt; spare = λ _. refl }
      r.each in
      record {
        ticket = r.ticket;
        serving = r.serving;
        log = r.log;
        words = r.words;
        lies = lies_same history right o plays topic adds begun s.homes mid r.log other w blank too out' refl (lies_same history right o plays topic adds begun s.homes s.views r.log id v u at out out r.lies);
        counted = omega arith;
        apart = apart_set history right o plays topic adds begun mid other blank (apart_set history right o plays topic adds begun s.views id u r.apart (λ i x t ne here same had. absurd (none_some t (sym rest ∙ same)))) (λ i x t ne here same had. absurd (none_some t same));
        each = fits;
        book = record {
          many = sum_join s id other v w calls_of at too (length_merged v.mine w.mine) refl ∙ r.book.many;
          calls = λ n. subst (Once n r.serving) (sym (sum_join s id other v w (turns_at n) at too (count_merged (is_turn n) v.mine w.mine) refl)) (r.book.calls n);
          added = λ p. subst (Between p (length begun) (length r.log)) (sym (sum_join s id other v w (adds_at adds p) at too (count_merged (is_entry adds p) v.mine w.mine) refl)) (r.book.added p);
          based = r.book.based;
          owned = each_join s id other v w (λ x. (p : ℕ) → 0 < adds_at adds p x → p < length x.seen)
              (λ p h. let c = count_merged (is_entry adds p) v.mine w.mine in dite (dec_lt 0 (adds_at adds p v))
              (λ a. longer_length p v.seen w.seen (inl (r.book.owned id v at p a)))
              (λ n. longer_length p v.seen w.seen (inr (r.book.owned other w there p (omega (arith, n))))))
              (λ p h. absurd (omega arith)) (λ i x e. r.book.owned i x e);
          low = r.book.low;
          topics = each_join s id other v w (KeepsTopics topic adds r.log)
              (λ p q e f h x y z t. let c = count_merged (is_entry adds p) v.mine w.mine in let d = count_merged (is_entry adds q) v.mine w.mine in dite (dec_lt 0 (adds_at adds p v))
              (λ a. let g = r.book.topics id v at p q e f a x y z t in omega arith)
              (λ n. let g = r.book.topics other w there p q e f (omega (arith, n)) x y z t in omega arith))
              (λ p q e f h x y z t. absurd (omega arith)) r.book.topics;
          whole = whole_join r.book.whole mine.saw theirs.saw there;
        };
        shared = omega arith;
        few = r.few;
        low = r.low;
        begins = r.begins;
      }
    where
      none_some : (t : ℕ) → None ≡ Some t → ⊥
      none_some t e = absurd cc

      one_view : (i : ℕ) (a b : V) → i ≡ id → get_elem? s.views i ≡ some b → get_elem? s.views id ≡ some a → a ≡ b
      one_view i a b e x y = some-injective a b (sym y ∙ (ap (get_elem? s.views) (sym e) ∙ x))

      whole_join : ((i : ℕ) × (x : V) × (get_elem? s.views i ≡ some x) × (x.seen ≡ r.log) × (0 < x.seats)) → IsPrefix v.seen r.log → IsPrefix w.seen r.log → get_elem? s.views other ≡ some w
          → (i : ℕ) × (x : V) × (get_elem? (set (set s.views id (joined v w)) other blank) i ≡ some x) × (x.seen ≡ r.log) × (0 < x.seats)
      whole_join h p q there =
          let here : get_elem? (set (set s.views id (joined v w)) other blank) id ≡ some (joined v w) = set_else (set s.views id (joined v w)) other id blank (λ e. apart (sym e)) ∙ set_here s.views id (joined v w) (at_below s.views id v at) in
          let sits : 0 < v.seats + w.seats = omega arith in
          dite (ℕ_discrete h.0 id)
          (λ e. let one = one_view h.0 v h.1 e h.2 at in (id, joined v w, here, longer_whole v.seen w.seen r.log p q (inl (ap (λ (z : V). z.seen) one ∙ h.3)), sits))
          (λ ne. dite (ℕ_discrete h.0 other)
          (λ e. let one : w ≡ h.1 = some-injective w h.1 (sym there ∙ (ap (get_elem? s.views) (sym e) ∙ h.2)) in (id, joined v w, here, longer_whole v.seen w.seen r.log p q (inr (ap (λ (z : V). z.seen) one ∙ h.3)), sits))
          (λ ne'. (h.0, h.1, set_else (set s.views id (joined v w)) other h.0 blank ne' ∙ (set_else s.views id h.0 (joined v w) ne ∙ h.2), h.3, h.4)))
