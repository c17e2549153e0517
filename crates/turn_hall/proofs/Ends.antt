-- A hall begins with the rule, and what the rule says at its end.
use Rattle.std.proofs.Common.{◌≡◌, ℕ, zero, suc, ◌+◌, ◌<◌, ◌≤◌, ◌≢◌, Bool, true, false, List, [], ◌∷◌, ◌++◌, length, refl, sym, ap, ◌∙◌, subst, inl, ⊎_elim, arith, Option, Some, None, le_refl, zero-le}
use native.Mathlib.Decide.{ℕ_discrete}
use mathlib.Core.Logic.{dite}
use mathlib.Core.List.{IsPrefix}
use mathlib.Core.Option.{none, some, some-injective, some-ne-none}
use mathlib.Core.Option as maybe
use lib.ListN.{get_elem?}
use Rattle.atomic_table.specs.Table.{State, opening, Final, Seen}
use Rattle.turn_hall.specs.declared.view.Made.{Made}
use Rattle.turn_hall.specs.declared.view.View.{View}
use Rattle.turn_hall.specs.declared.view.InSlot.{InSlot}
use Rattle.turn_hall.specs.Lists.{total, Once, Between}
use Rattle.turn_hall.specs.Calls.{is_turn, is_entry}
use Rattle.turn_hall.specs.Views.{seats_of, calls_of, turns_at, adds_at, count_of, fresh}
use Rattle.turn_hall.specs.Promises.{Accounted}
use Rattle.turn_hall.specs.Rule.{WasKept, IsTrueView, KeepsRule}
use Rattle.turn_hall.proofs.Totals.{total_only, total_alone}
use Rattle.turn_hall.proofs.Prefixes.{prefix_self}
use Rattle.turn_hall.proofs.Moves.{false-ne-true}

module _ {T W E C B : Type 0} (history : T → List E) (right : Option W → T → Type 0) (o : Option W) (plays : List E → C → B → List E → Type 0) (topic : E → Option ℕ) (adds : C → B → Bool) where
  abbrev V : Type 0
  V = View W E C B

  abbrev S : Type 0
  S = Option (InSlot T C B)

  one_view : (u : V) (i : ℕ) (v : V) → get_elem? (u ∷ []) i ≡ some v → u ≡ v
  one_view u zero v e = some-injective u v e
  one_view u (suc i) v e = absurd (some-ne-none v (sym e))

  only_index : (u : V) (i : ℕ) (v : V) → get_elem? (u ∷ []) i ≡ some v → i ≡ 0
  only_index u zero v e = refl
  only_index u (suc i) v e = absurd (some-ne-none v (sym e))

  pub opens : (all : ℕ) (k : InSlot T C B) → right o k.value → ((q j : ℕ) (f : E) → get_elem? (history k.value) q ≡ some f → topic f ≡ Some j → j ≤ q + 1) → 0 < all → all < 4294967296
      → KeepsRule history right o plays topic adds all (history k.value) (opening (0 ∷ 0 ∷ []) (Some k ∷ []) (fresh o all (history k.value)))
  opens all k good below some_seat few =
      let log : List E = history k.value in
      let v : V = fresh o all log in
      record {
        ticket = 0;
        serving = 0;
        log = log;
        words = refl;
        lies = inl (k, refl, refl, λ i u e. subst (λ (z : V). z.in_turn ≡ false) (one_view v i u e) refl, good);
        counted = refl;
        apart = λ i j u w t a b hu hw. only_index v i u a ∙ sym (only_index v j w b);
        each = λ i u e. subst (IsTrueView (WasKept history right o) plays o 0 0 log) (one_view v i u e)
            record { sited = λ _. refl; bounds = λ t e. absurd (none_some t e); turn = λ e. absurd (false-ne-true e); seated = zero-le; known = le_refl 0; saw = prefix_self log; lawful = λ _. (k.value, refl, good); listened = (log, refl); answers = λ k m e. absurd (some-ne-none m (sym e)); rises = tt; spare = λ _. refl };
        book = record {
          many = refl;
          calls = λ n. ((λ h. absurd (omega arith)), (λ _. refl));
          added = λ p. ((λ _. refl), (λ a b. absurd (omega arith)), (λ _. refl));
          based = le_refl (length log);
          owned = λ i u e p h. absurd (no_calls u p (one_view v i u e) h);
          low = below;
          topics = λ i u e p q x f h. absurd (no_calls u p (one_view v i u e) h);
          whole = (0, v, refl, refl, some_seat);
        };
        shared = omega arith;
        few = few;
        low = zero-le;
        begins = prefix_self log;
      }
    where
      none_some : (t : ℕ) → None ≡ Some t → ⊥
      none_some t e = absurd cc

      no_calls : (u : V) (p : ℕ) → fresh o all (history k.value) ≡ u → 0 < adds_at adds p u → ⊥
      no_calls u p e h = let z : adds_at adds p u ≡ 0 = ap (adds_at adds p) (sym e) in omega arith

  pub closes : (all : ℕ) (begun : List E) (id : ℕ) (v : V) (ws : List ℕ) (xs : List S) (slot : S) → v.ticket ≡ None → v.in_turn ≡ false → all ≡ v.seats
      → Final (Seen (KeepsRule history right o plays topic adds all begun) id v) ws xs → get_elem? xs 0 ≡ some slot
      → (k : InSlot T C B) × (slot ≡ Some k) × (history k.value ≡ v.seen) × right o k.value × Accounted plays adds begun v
  closes all begun id v ws xs slot rest out have f found =
      let s : State S V = f.0 in
      let r = f.1.0 in
      let at = f.1.1 in
      let mine = r.each id v at in
      let bare : (i : ℕ) (u : V) → i ≢ id → get_elem? s.views i ≡ some u → u.seats ≡ 0 = λ i u ne e. total_alone seats_of s.views id i v u at e (λ h. ne (sym h)) (sym have ∙ sym r.shared) in
      let none_of : (i : ℕ) (u : V) → i ≢ id → get_elem? s.views i ≡ some u → u.mine ≡ [] = λ i u ne e. (r.each i u e).spare (bare i u ne e) in
      let off : (i : ℕ) (u : V) → get_elem? s.views i ≡ some u → u.in_turn ≡ true → ⊥ = λ i u e is. dite (ℕ_discrete i id)
      (λ same. false-ne-true (sym out ∙ (ap (λ (z : V). z.in_turn) (some-injective v u (sym at ∙ (ap (get_elem? s.views) (sym same) ∙ e))) ∙ is)))
      (λ ne. let z : u.seats ≡ 0 = bare i u ne e in let q = (r.each i u e).seated in let one : count_of u.ticket ≡ 1 = ap count_of ((r.each i u e).turn is).0 in omega arith) in
      let all_seen : v.seen ≡ r.log = whole_is s r at bare in
      let sum : (g : V → ℕ) → ((u : V) → u.mine ≡ [] → g u ≡ 0) → total g s.views ≡ g v = λ g z. total_only g s.views id v at (λ j u ne e. z u (none_of j u ne e)) in
      let many : length v.mine ≡ r.serving = sym (sum calls_of (λ u e. ap length e)) ∙ r.book.many in
      home s r at out off (λ k home_is log_is good.
      let here : get_elem? xs 0 ≡ some (Some k) = f.4 0 (Some k) (ap (λ (hs : List (maybe.Option S)). get_elem? hs 0) home_is) in (
        k,
        some-injective slot (Some k) (sym found ∙ here),
        log_is ∙ sym all_seen,
        good,
        record {
          known = subst (λ (z : ℕ). v.turns ≤ z) (sym many) mine.known;
          begins = subst (IsPrefix begun) (sym all_seen) r.begins;
          turns = (λ n. subst (λ (z : ℕ × ℕ). Once n z.0 z.1) (λ i. (sym many i, sum (turns_at n) (λ u e. ap (λ (l : List (Made C B)). Rattle.turn_hall.specs.Lists.count_if (is_turn n) l) e) i)) (r.book.calls n));
          entries = (λ p. subst (λ (z : ℕ × ℕ). Between p (length begun) z.0 z.1) (λ i. (ap length (sym all_seen) i, sum (adds_at adds p) (λ u e. ap (λ (l : List (Made C B)). Rattle.turn_hall.specs.Lists.count_if (is_entry adds p) l) e) i)) (r.book.added p));
          answers = (λ j m e. let a = (mine.answers j m e).1 in (a.0, a.1, subst (IsPrefix a.1) (sym all_seen) a.2, a.3, a.4));
        },
      ))
    where
      whole_is : (s : State S V) (r : KeepsRule history right o plays topic adds all begun s) → get_elem? s.views id ≡ some v → ((i : ℕ) (u : V) → i ≢ id → get_elem? s.views i ≡ some u → u.seats ≡ 0) → v.seen ≡ r.log
      whole_is s r at bare = let h = r.book.whole in dite (ℕ_discrete h.0 id)
          (λ same. ap (λ (z : V). z.seen) (some-injective v h.1 (sym at ∙ (ap (get_elem? s.views) (sym same) ∙ h.2))) ∙ h.3)
          (λ ne. let z : h.1.seats ≡ 0 = bare h.0 h.1 ne h.2 in let sits : 0 < h.1.seats = h.4 in absurd (omega arith))

      home : {X : Type 0} (s : State S V) (r : KeepsRule history right o plays topic adds all begun s) → get_elem? s.views id ≡ some v → v.in_turn ≡ false → ((i : ℕ) (u : V) → get_elem? s.views i ≡ some u → u.in_turn ≡ true → ⊥)
          → ((k : InSlot T C B) → s.homes ≡ some (Some k) ∷ [] → history k.value ≡ r.log → right o k.value → X) → X
      home s r at out off go = ⊎_elim (λ h. go h.0 h.1 h.2 h.4) (λ h. absurd (off h.1.0 h.1.1 h.1.2 h.1.3)) r.lies

  -- the same, from what the calls before it said
  pub opens_at : (seats all : ℕ) (value first : T) (xs ys : List S) → all ≡ seats → first ≡ value → xs ≡ ys ++ Some record { value = value; last = None } ∷ [] → ys ≡ [] → right o value → ((q j : ℕ) (f : E) → get_elem? (history value) q ≡ some f → topic f ≡ Some j → j ≤ q + 1) → 0 < seats → seats < 4294967296
      → KeepsRule history right o plays topic adds all (history first) (opening (0 ∷ 0 ∷ []) xs (fresh o all (history first)))
  opens_at seats all value first xs ys all_is first_is xs_is ys_is good below some_seat few =
      let k : InSlot T C B = record { value = value; last = None } in
      let one : xs ≡ Some k ∷ [] = xs_is ∙ ap (λ (l : List S). l ++ Some k ∷ []) ys_is in
      subst (λ (z : ℕ × T × List S). KeepsRule history right o plays topic adds z.0 (history z.1) (opening (0 ∷ 0 ∷ []) z.2 (fresh o z.0 (history z.1))))
      (λ i. (sym all_is i, sym first_is i, sym one i)) (opens seats k good below some_seat few)
