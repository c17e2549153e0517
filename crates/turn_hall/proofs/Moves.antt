-- Each step keeps the rule.
use Rattle.std.proofs.Common.{◌≡◌, ℕ, suc, ◌+◌, ◌%◌, ◌<◌, ◌≤◌, ◌≢◌, ◌==◌, ◌⊎◌, Bool, true, false, List, [], ◌∷◌, ◌++◌, set, length, refl, sym, ap, ◌∙◌, subst, inl, inr, ⊎_elim, arith, Option, Some, None, slice_index, slice_set, le_refl, zero-le}
use prog.Atomic.{either}
use Rattle.std.proofs.lemmas.Bool.Decides.{nat_tests}
use mathlib.Core.List.{IsPrefix}
use mathlib.Core.Option.{none, some, some-injective, some-ne-none}
use mathlib.Core.Option as maybe
use lib.ListN.{get_elem?}
use Rattle.atomic_table.specs.Table.{State, Act, Me, step, keeps, takes, gives, Valid, Allows, carried_after, homes_after}
use Rattle.atomic_table.proofs.Lists.{at_set, at_snoc, set_again, set_here, set_else}
use Rattle.turn_hall.specs.declared.view.Made.{Made}
use Rattle.turn_hall.specs.declared.view.View.{View}
use Rattle.turn_hall.specs.declared.view.Last.{Last}
use Rattle.turn_hall.specs.declared.view.InSlot.{InSlot}
use Rattle.turn_hall.specs.Lists.{one_if}
use Rattle.turn_hall.specs.Calls.{made_in, mine_after, RisesFrom}
use Rattle.turn_hall.specs.Views.{waiting, seats_of, adds_at, count_of, is_called, holding, waited, entered, passed_on}
use Rattle.turn_hall.specs.Promises.{Apart}
use Rattle.turn_hall.specs.Told.{DrawTells, DrawsIf, LookTells, SeesOrEnters, PassTells, LeavesWith, IsAtRest, CarriesPlay}
use Rattle.turn_hall.specs.Rule.{WasKept, IsTrueView, LiesInSlot, KeepsRule}
use Rattle.turn_hall.proofs.Totals.{total_set, total_le, total_has}
use Rattle.turn_hall.proofs.Books.{at_below, book_same, book_more}
use Rattle.turn_hall.proofs.Prefixes.{prefix_self, prefix_trans, prefix_length}

-- a number that is called is the ticket
pub called : (n : ℕ) (o : Option ℕ) → is_called n o ≡ true → o ≡ Some n
called n None e = absurd cc
called n (Some t) e = let same : t ≡ n = grind (arith, nat_tests) in ap Some same

off_of : (b : Bool) → (b ≡ true → ⊥) → b ≡ false
off_of true h = absurd (h refl)
off_of false h = refl

below_next : (n : ℕ) → n < n + 1
below_next n = omega arith

next_le : (a b : ℕ) → a < b → a + 1 ≤ b
next_le a b h = omega arith

rises_append : {C B : Type 0} (n : ℕ) (xs : List (Made C B)) (m : Made C B) → RisesFrom n xs → n ≤ m.turn → ((j : ℕ) (x : Made C B) → get_elem? xs j ≡ some x → x.turn < m.turn) → RisesFrom n (xs ++ m ∷ [])
rises_append n [] m r le each = (le, tt)
rises_append n (x ∷ xs) m r le each = (r.0, rises_append (x.turn + 1) xs m r.1 (next_le x.turn m.turn (each 0 x refl)) (λ j y e. each (suc j) y e))

le_up : (a n : ℕ) → a < n → a < n + 1
le_up a n h = omega arith

nat_here : (t n : ℕ) → t ≡ n → (t == n) ≡ true
nat_here t n e = grind (arith, nat_tests)

nat_else : (t n : ℕ) → (n == t) ≡ false → (t == n) ≡ false
nat_else t n e = grind (arith, nat_tests)

pub false-ne-true : false ≡ true → ⊥
false-ne-true e = absurd cc

module _ {T W E C B : Type 0} (history : T → List E) (right : Option W → T → Type 0) (o : Option W) (plays : List E → C → B → List E → Type 0) (topic : E → Option ℕ) (adds : C → B → Bool) (begun : List E) where
  abbrev V : Type 0
  V = View W E C B

  abbrev S : Type 0
  S = Option (InSlot T C B)

  abbrev St : Type 0
  St = State S V

  -- the rest of a step, where the words are ws
  abbrev Ends : ℕ → St → ℕ → V → List (ℕ × S) → ℕ → (ℕ → ℕ) → (ℕ → Me S V → Type 0) → List ℕ → Type 0
  Ends all s id v c i f then ws =
      (w : V) × (a : Act S) × Valid s.homes c a
      × KeepsRule history right o plays topic adds all begun record { words = slice_set ws i (f (slice_index ws i)); homes = homes_after s.homes c a; views = slice_set s.views id w }
      × then (slice_index ws i) (w, carried_after c a)

  -- no more tickets than seats
  few_tickets : (all : ℕ) (s : St) (r : KeepsRule history right o plays topic adds all begun s) → r.ticket ≤ r.serving + all
  few_tickets all s r = let le = total_le waiting seats_of s.views (λ i v at. (r.each i v at).seated) in let c = r.counted in let t = r.shared in omega arith

  few_seats : (all id : ℕ) (s : St) (r : KeepsRule history right o plays topic adds all begun s) (v : V) → get_elem? s.views id ≡ some v → v.seats < 4294967296
  few_seats all id s r v at = let h = total_has seats_of s.views id v at in let t = r.shared in let f = r.few in omega arith

  -- a fact of each view, after one of them changed
  pub each_set : (P : V → Type 0) (views : List V) (id : ℕ) (w : V) → P w
      → ((i : ℕ) (v : V) → i ≢ id → get_elem? views i ≡ some v → P v)
      → (i : ℕ) (u : V) → get_elem? (set views id w) i ≡ some u → P u
  each_set P views id w here else i u at =
      ⊎_elim (λ t. subst P t.1 here) (λ t. else i u t.0 t.1) (at_set views id i w u at)

  -- tickets stay apart where the changed view has a ticket that no other has
  pub apart_set : (views : List V) (id : ℕ) (w : V)
      → ((i j : ℕ) (v u : V) (t : ℕ) → get_elem? views i ≡ some v → get_elem? views j ≡ some u → v.ticket ≡ Some t → u.ticket ≡ Some t → i ≡ j)
      → ((i : ℕ) (v : V) (t : ℕ) → i ≢ id → get_elem? views i ≡ some v → w.ticket ≡ Some t → v.ticket ≢ Some t)
      → (i j : ℕ) (v u : V) (t : ℕ) → get_elem? (set views id w) i ≡ some v → get_elem? (set views id w) j ≡ some u → v.ticket ≡ Some t → u.ticket ≡ Some t → i ≡ j
  apart_set views id w was new i j v u t ati atj hv hu =
      ⊎_elim
      (λ a. ⊎_elim
      (λ b. a.0 ∙ sym b.0)
      (λ b. absurd (new j u t b.0 b.1 (subst (λ (z : V). z.ticket ≡ Some t) (sym a.1) hv) hu))
      (at_set views id j w u atj))
      (λ a. ⊎_elim
      (λ b. absurd (new i v t a.0 a.1 (subst (λ (z : V). z.ticket ≡ Some t) (sym b.1) hu) hv))
      (λ b. was i j v u t a.1 b.1 hv hu)
      (at_set views id j w u atj))
      (at_set views id i w v ati)

  -- the value lies where it did, where the changed view is in turn as it was
  pub lies_same : (homes : List (maybe.Option S)) (views : List V) (log : List E) (id : ℕ) (v w : V) → get_elem? views id ≡ some v → v.in_turn ≡ false → w.in_turn ≡ false
      → LiesInSlot history (right o) homes views log → LiesInSlot history (right o) homes (set views id w) log
  lies_same homes views log id v w at was is (inl h) = inl (h.0, h.1, h.2, each_set (λ u. u.in_turn ≡ false) views id w is (λ i u other here. h.3 i u here), h.4)
  lies_same homes views log id v w at was is (inr h) =
      let i : ℕ = h.1.0 in let u : V = h.1.1 in
      let other : i ≢ id = λ e. absurd (cc (some-injective v u (sym at ∙ (ap (get_elem? views) (sym e) ∙ h.1.2)), h.1.3, was)) in
      inr (h.0, (i, u, set_else views id i w other ∙ h.1.2, h.1.3))

  -- the rule holds on where a view at rest has drawn the next ticket
  has_drawn : (all id : ℕ) (me : Me S V) (s : St) → IsAtRest me → get_elem? s.views id ≡ some me.0 → (r : KeepsRule history right o plays topic adds all begun s)
      → KeepsRule history right o plays topic adds all begun record { words = (r.ticket + 1) ∷ r.serving ∷ []; homes = s.homes; views = set s.views id (holding me.0 r.ticket) }
  has_drawn all id me s rest at r =
      let v : V = me.0 in
      let small = r.few in
      let low = r.low in
      let t : ℕ = r.ticket in
      let n : ℕ = r.serving in
      let w : V = holding v t in
      let counts = total_set waiting s.views id v w at in
      let zero_before : waiting v ≡ 0 = ap count_of rest.0 in
      let some_seat : 0 < v.seats = rest.3 in
      let shares = total_set seats_of s.views id v w at in
      let c0 = r.counted in
      let s0 = r.shared in
      let mine = r.each id v at in
      record {
        ticket = t + 1;
        serving = n;
        log = r.log;
        words = refl;
        lies = lies_same s.homes s.views r.log id v w at rest.1 refl r.lies;
        counted = omega arith;
        apart = apart_set s.views id w r.apart (λ i u k other here same had. let b = (r.each i u here).bounds k had in let e : t ≡ k = cc in absurd (omega arith));
        each = each_set (IsTrueView (WasKept history right o) plays o (t + 1) n r.log) s.views id w
            record {
              sited = mine.sited;
              bounds = λ k e. let e' : t ≡ k = cc in omega arith;
              turn = λ e. absurd cc;
              seated = omega arith;
              known = mine.known;
              saw = mine.saw;
              lawful = mine.lawful;
              listened = mine.listened;
              answers = mine.answers;
              rises = mine.rises;
              spare = mine.spare;
            }
            (λ i u other here. let f = r.each i u here in record { sited = f.sited; bounds = λ k e. let b = f.bounds k e in omega arith; turn = f.turn; seated = f.seated; known = f.known; saw = f.saw; lawful = f.lawful; listened = f.listened; answers = f.answers; rises = f.rises; spare = f.spare });
        book = book_same topic adds (length begun) n r.log s.views id v w at refl (le_refl _) (λ e. e) (λ p. p) r.book;
        shared = omega arith;
        few = small;
        low = low;
        begins = r.begins;
      }

  -- what a draw of the ticket k comes to, where it is the next one or not
  abbrev DrawEnds : ℕ → ℕ → Me S V → St → ℕ → ℕ → ℕ → Bool → Type 0
  DrawEnds all id me s k t n is =
      (w : V) × (a : Act S) × Valid s.homes me.1 a
      × KeepsRule history right o plays topic adds all begun record { words = either is (k + 1) t ∷ n ∷ []; homes = homes_after s.homes me.1 a; views = set s.views id w }
      × DrawsIf is me t (w, carried_after me.1 a)

  draw_ends : (all id k : ℕ) (me : Me S V) (s : St) → IsAtRest me → get_elem? s.views id ≡ some me.0 → (r : KeepsRule history right o plays topic adds all begun s)
      → (is : Bool) → (r.ticket == k) ≡ is → DrawEnds all id me s k r.ticket r.serving is
  draw_ends all id k me s rest at r true is =
      let same : r.ticket ≡ k = grind (arith, nat_tests) in
      let w : V = holding me.0 r.ticket in (
        w,
        keeps,
        tt,
        subst (λ (i : ℕ). KeepsRule history right o plays topic adds all begun record { words = (i + 1) ∷ r.serving ∷ []; homes = s.homes; views = set s.views id w }) same (has_drawn all id me s rest at r),
        ap (λ (c : List (ℕ × S)). (w, c)) rest.2,
      )
  draw_ends all id k me s rest at r false is = (
    me.0,
    keeps,
    tt,
    subst (λ (views : List V). KeepsRule history right o plays topic adds all begun record { words = r.ticket ∷ r.serving ∷ []; homes = s.homes; views = views }) (sym (set_again s.views id me.0 at))
        record { ticket = r.ticket; serving = r.serving; log = r.log; words = refl; lies = r.lies; counted = r.counted; apart = r.apart; each = r.each; book = r.book; shared = r.shared; few = r.few; begins = r.begins; low = r.low },
    refl,
  )

  pub drawn : (all slots id k : ℕ) (me : Me S V) → IsAtRest me
      → Allows (KeepsRule history right o plays topic adds all begun) slots id me 0 (λ n. either (n == k) (k + 1) n) (DrawTells (step slots 0 k (k + 1) none) me)
  drawn all slots id k me rest s r deep at fits =
      subst (Ends all s id me.0 me.1 0 (λ n. either (n == k) (k + 1) n) (DrawTells (step slots 0 k (k + 1) none) me)) (sym r.words) (draw_ends all id k me s rest at r (r.ticket == k) refl)

  -- where a view has the ticket that is served and is not in turn, no other is in turn, so the value is at home
  at_home : (all id : ℕ) (s : St) (r : KeepsRule history right o plays topic adds all begun s) (v : V) → get_elem? s.views id ≡ some v → v.ticket ≡ Some r.serving → v.in_turn ≡ false
      → (k : InSlot T C B) × (s.homes ≡ some (Some k) ∷ []) × (history k.value ≡ r.log) × ((i : ℕ) (u : V) → get_elem? s.views i ≡ some u → u.in_turn ≡ false) × right o k.value
  at_home all id s r v at has out = go r.lies
    where
      go : LiesInSlot history (right o) s.homes s.views r.log
          → (k : InSlot T C B) × (s.homes ≡ some (Some k) ∷ []) × (history k.value ≡ r.log) × ((i : ℕ) (u : V) → get_elem? s.views i ≡ some u → u.in_turn ≡ false) × right o k.value
      go (inl h) = h
      go (inr h) =
          let i : ℕ = h.1.0 in let u : V = h.1.1 in
          let theirs = (r.each i u h.1.2).turn h.1.3 in
          let same : i ≡ id = r.apart i id u v r.serving h.1.2 at theirs.0 has in
          let one : v ≡ u = some-injective v u (sym at ∙ (ap (get_elem? s.views) (sym same) ∙ h.1.2)) in
          absurd (false-ne-true (sym out ∙ (ap (λ (z : V). z.in_turn) one ∙ h.1.3)))

  pub looks_on : (all slots id : ℕ) (me : Me S V) → me.0.in_turn ≡ false
      → Allows (KeepsRule history right o plays topic adds all begun) slots id me 1 (λ n. n) (LookTells history right topic adds (step slots 1 0 0 none) me)
  looks_on all slots id me out s r deep at fits =
      subst (Ends all s id v me.1 1 (λ k. k) (LookTells history right topic adds (step slots 1 0 0 none) me)) (sym r.words) (go (is_called n v.ticket) refl)
    where
      v : V
      v = me.0

      n : ℕ
      n = r.serving

      mine : IsTrueView (WasKept history right o) plays o r.ticket n r.log v
      mine = r.each id v at

      kept_there : 0 < v.seats → WasKept history right v.site v.seen
      kept_there sits = subst (λ z. WasKept history right z v.seen) (sym (mine.sited sits)) (mine.lawful sits)

      go : (b : Bool) → is_called n v.ticket ≡ b → Ends all s id v me.1 1 (λ k. k) (LookTells history right topic adds (step slots 1 0 0 none) me) (r.ticket ∷ n ∷ [])
      go false is =
          let w : V = waited v n in
          let counts = total_set waiting s.views id v w at in
          let shares = total_set seats_of s.views id v w at in
          let c0 = r.counted in
          let s0 = r.shared in (
            w,
            keeps,
            tt,
            record {
              ticket = r.ticket;
              serving = n;
              log = r.log;
              words = refl;
              lies = lies_same s.homes s.views r.log id v w at out refl r.lies;
              counted = omega arith;
              apart = apart_set s.views id w r.apart (λ i u k other here same had. other (r.apart i id u v k here at had same));
              each = each_set (IsTrueView (WasKept history right o) plays o r.ticket n r.log) s.views id w
                  record { sited = mine.sited; bounds = mine.bounds; turn = λ e. absurd (false-ne-true e); seated = mine.seated; known = le_refl n; saw = mine.saw; lawful = mine.lawful; listened = mine.listened; answers = mine.answers; rises = mine.rises; spare = mine.spare }
                  (λ i u other here. r.each i u here);
              book = book_same topic adds (length begun) n r.log s.views id v w at refl (le_refl _) (λ e. e) (λ p. p) r.book;
              shared = omega arith;
              few = r.few;
              low = r.low;
              begins = r.begins;
            },
            (mine.known, subst (λ (z : Bool). SeesOrEnters history right topic adds z me n (w, me.1)) (sym is) refl, (few_seats all id s r v at, (r.log, mine.saw, mine.listened), kept_there, mine.rises)),
          )
      go true is =
          let has_it : v.ticket ≡ Some n = called n v.ticket is in
          let h = at_home all id s r v at has_it out in
          let k : InSlot T C B = h.0 in
          let w : V = entered v n (history k.value) in
          let counts = total_set waiting s.views id v w at in
          let shares = total_set seats_of s.views id v w at in
          let c0 = r.counted in
          let s0 = r.shared in
          let room = at_below s.views id v at in (
            w,
            takes 0 (Some k),
            ap (λ (hs : List (maybe.Option S)). get_elem? hs 0) h.1,
            record {
              ticket = r.ticket;
              serving = n;
              log = r.log;
              words = refl;
              lies = inr (ap (λ (hs : List (maybe.Option S)). slice_set hs 0 none) h.1, (id, w, set_here s.views id w room, refl));
              counted = omega arith;
              apart = apart_set s.views id w r.apart (λ i u j other here same had. other (r.apart i id u v j here at had same));
              each = each_set (IsTrueView (WasKept history right o) plays o r.ticket n r.log) s.views id w
                  record { sited = mine.sited; bounds = mine.bounds; turn = λ e. (has_it, h.2); seated = mine.seated; known = le_refl n; saw = subst (λ z. IsPrefix z r.log) (sym h.2) (prefix_self r.log); lawful = λ _. (k.value, refl, h.4); listened = mine.listened; answers = mine.answers; rises = mine.rises; spare = mine.spare }
                  (λ i u other here. r.each i u here);
              book = book_same topic adds (length begun) n r.log s.views id v w at refl (subst (λ z. length v.seen ≤ length z) (sym h.2) (prefix_length v.seen r.log mine.saw)) (λ e. h.2) (λ p. p) r.book;
              shared = omega arith;
              few = r.few;
              low = r.low;
              begins = r.begins;
            },
            (mine.known, subst (λ (z : Bool). SeesOrEnters history right topic adds z me n (w, (0, Some k) ∷ me.1)) (sym is) (k, refl, subst (IsPrefix v.seen) (sym h.2) mine.saw, λ p q e f a x y le z t. let lt : q < length v.seen = r.book.owned id v at q (r.book.topics id v at p q e f a (subst (λ l. get_elem? l p ≡ some e) h.2 x) y (subst (λ l. get_elem? l q ≡ some f) h.2 z) t) in omega arith, subst (λ z. right z k.value) (sym (mine.sited (omega (arith, mine.seated, ap count_of has_it)))) h.4), (few_seats all id s r v at, (r.log, mine.saw, mine.listened), kept_there, mine.rises)),
          )

  -- what a look tells where its number is the ticket
  pub look_entered : (ticket n slots : ℕ) (me me' : Me S V) → me.0.ticket ≡ Some ticket → me.1 ≡ [] → (n == ticket) ≡ true → LookTells history right topic adds (step slots 1 0 0 none) me n me'
      → (k : InSlot T C B) × (me' ≡ (entered me.0 ticket (history k.value), (0, Some k) ∷ [])) × IsPrefix me.0.seen (history k.value) × (me.0.turns ≤ ticket) × Apart topic adds (history k.value) me.0 × right me.0.site k.value
  look_entered ticket n slots me me' has empty is told =
      let same : n ≡ ticket = grind (arith, nat_tests) in
      let calls : is_called n me.0.ticket ≡ true = ap (is_called n) has ∙ nat_here ticket n (sym same) in
      let h = subst (λ (z : Bool). SeesOrEnters history right topic adds z me n me') calls told.1 in (
        h.0,
        h.1 ∙ ap (λ (x : ℕ × List (ℕ × S)). (entered me.0 x.0 (history h.0.value), (0, Some h.0) ∷ x.1)) (λ i. (same i, empty i)),
        h.2,
        subst (λ (z : ℕ). me.0.turns ≤ z) same told.0,
        h.3,
        h.4,
      )

  -- and where it is not
  pub look_waits : (ticket n slots : ℕ) (me me' : Me S V) → me.0.ticket ≡ Some ticket → me.1 ≡ [] → (n == ticket) ≡ false → LookTells history right topic adds (step slots 1 0 0 none) me n me'
      → (n : ℕ) × (me' ≡ (waited me.0 n, [])) × (me.0.turns ≤ n)
  look_waits ticket n slots me me' has empty is told =
      let calls : is_called n me.0.ticket ≡ false = ap (is_called n) has ∙ nat_else ticket n is in
      let h = subst (λ (z : Bool). SeesOrEnters history right topic adds z me n me') calls told.1 in
      (n, h ∙ ap (λ (c : List (ℕ × S)). (waited me.0 n, c)) empty, told.0)

  -- a view in turn has the value out
  out_of_home : (all id : ℕ) (s : St) (r : KeepsRule history right o plays topic adds all begun s) (v : V) → get_elem? s.views id ≡ some v → v.in_turn ≡ true → s.homes ≡ none ∷ []
  out_of_home all id s r v at is = go r.lies
    where
      go : LiesInSlot history (right o) s.homes s.views r.log → s.homes ≡ none ∷ []
      go (inl h) = absurd (false-ne-true (sym (h.3 id v at) ∙ is))
      go (inr h) = h.0

  module _ (grows : (h : List E) (call : C) (back : B) (h' : List E) → plays h call back h' → IsPrefix h h' × (length h' ≡ length h + one_if (adds call back)))
      (asks : C → Option ℕ)
      (topics : (h : List E) (call : C) (back : B) (h' : List E) (e : E) (k : ℕ) → plays h call back h' → get_elem? h' (length h) ≡ some e → topic e ≡ Some k → (k ≡ length h + 1) ⊎ (asks call ≡ Some k)) where
    pub passed : (all slots id : ℕ) (me : Me S V) → me.0.in_turn ≡ true → ((t : ℕ) → me.0.ticket ≡ Some t → t < 4611686018427387904) → CarriesPlay history (right o) plays adds asks me
        → Allows (KeepsRule history right o plays topic adds all begun) slots id me 1 (λ n. (n + 1) % 18446744073709551616) (PassTells history (step slots 1 1 0 none) me)
    passed all slots id me is low carry s r deep at fits =
        let v : V = me.0 in
        let t : ℕ = r.ticket in
        let n : ℕ = r.serving in
        let mine = r.each id v at in
        let has : v.ticket ≡ Some n = (mine.turn is).0 in
        let all_seen : v.seen ≡ r.log = (mine.turn is).1 in
        let k : InSlot T C B = carry.0 in
        let l : Last C B = carry.1 in
        let log' : List E = history k.value in
        let w : V = passed_on v n log' k.last in
        let m : Made C B = made_in n (length v.seen) l.call.value l.back.value in
        let mine_is : w.mine ≡ v.mine ++ m ∷ [] = ap (mine_after v.mine n (length v.seen)) carry.3 in
        let onward : IsPrefix r.log log' = subst (λ z. IsPrefix z log') all_seen (grows v.seen l.call.value l.back.value log' carry.4).0 in
        let below : n < 4611686018427387904 = low n has in
        let wrap : (n + 1) % 18446744073709551616 ≡ n + 1 = omega arith in
        let counts = total_set waiting s.views id v w at in
        let one : waiting v ≡ 1 = ap count_of has in
        let shares = total_set seats_of s.views id v w at in
        let all_at : m.at ≡ length r.log = ap length all_seen in
        let g = grows v.seen l.call.value l.back.value log' carry.4 in
        let size : length log' ≡ length r.log + one_if (adds m.call m.back) = subst (λ z. length log' ≡ length z + one_if (adds m.call m.back)) all_seen g.1 in
        let new : (e : E) (k : ℕ) → get_elem? log' (length r.log) ≡ some e → topic e ≡ Some k → (k ≡ length r.log + 1) ⊎ ((p : ℕ) × (k ≡ p + 1) × (0 < adds_at adds p v)) =
        λ e j x y. ⊎_elim (λ i. inl (i ∙ ap (λ (z : List E). length z + 1) all_seen)) (λ i. inr (carry.5 j i)) (topics v.seen l.call.value l.back.value log' e j carry.4 (subst (λ (z : List E). get_elem? log' (length z) ≡ some e) (sym all_seen) x) y) in
        let sits : 0 < v.seats = let q = mine.seated in omega arith in
        let rising : RisesFrom 0 w.mine = subst (RisesFrom 0) (sym mine_is) (rises_append 0 v.mine m mine.rises zero-le (λ j x e. (mine.answers j x e).0)) in
        let c0 = r.counted in
        let s0 = r.shared in
        let out = out_of_home all id s r v at is in
        let homes' : homes_after s.homes me.1 gives ≡ some (Some k) ∷ [] = ap (λ (c : List (ℕ × S)). homes_after s.homes c gives) carry.2 ∙ ap (λ (hs : List (maybe.Option S)). slice_set hs 0 (some (Some k))) out in
        let differ : (i : ℕ) (u : V) (j : ℕ) → i ≢ id → get_elem? s.views i ≡ some u → u.ticket ≡ Some j → j ≢ n = λ i u j other here e same. other (r.apart i id u v n here at (e ∙ ap Some same) has) in
        let off : (i : ℕ) (u : V) → i ≢ id → get_elem? s.views i ≡ some u → u.in_turn ≡ false =
        λ i u other here. off_of u.in_turn (λ e. differ i u n other here ((r.each i u here).turn e).0 refl) in
        subst (Ends all s id v me.1 1 (λ z. (z + 1) % 18446744073709551616) (PassTells history (step slots 1 1 0 none) me)) (sym r.words) (
          w,
          gives,
          tt,
          record {
            ticket = t;
            serving = n + 1;
            log = log';
            words = ap (λ (z : ℕ). t ∷ z ∷ []) wrap;
            lies = inl (k, homes', refl, each_set (λ u. u.in_turn ≡ false) s.views id w refl (λ i u other here. off i u other here), carry.6);
            counted = omega arith;
            apart = apart_set s.views id w r.apart (λ i u j other here same had. absurd cc);
            each = each_set (IsTrueView (WasKept history right o) plays o t (n + 1) log') s.views id w
                record {
                  sited = mine.sited;
                  bounds = λ j e. absurd cc;
                  turn = λ e. absurd (false-ne-true e);
                  seated = omega arith;
                  known = le_refl (n + 1);
                  saw = prefix_self log';
                  lawful = λ _. (k.value, refl, carry.6);
                  listened = prefix_trans v.heard r.log log' mine.listened onward;
                  rises = rising;
                  spare = λ e. absurd (omega (arith, e));
                  answers = λ j x e. ⊎_elim
                      (λ old. let a = mine.answers j x old in (le_up x.turn n a.0, (a.1.0, a.1.1, prefix_trans a.1.1 r.log log' a.1.2 onward, a.1.3, a.1.4)))
                      (λ new. subst (λ (z : Made C B). (z.turn < n + 1) × ((h : List E) × (h' : List E) × IsPrefix h' log' × (length h ≡ z.at) × plays h z.call z.back h')) new
                      (below_next n, (v.seen, log', prefix_self log', refl, carry.4)))
                      (at_snoc v.mine m x j (subst (λ z. get_elem? z j ≡ some x) mine_is e));
                }
                (λ i u other here. let f = r.each i u here in
                record {
                  sited = f.sited;
                  bounds = λ j e. let b = f.bounds j e in let d = differ i u j other here e in omega arith;
                  turn = λ e. absurd (differ i u n other here (f.turn e).0 refl);
                  seated = f.seated;
                  known = let q = f.known in omega arith;
                  saw = prefix_trans u.seen r.log log' f.saw onward;
                  lawful = f.lawful;
                  listened = prefix_trans u.heard r.log log' f.listened onward;
                  rises = f.rises;
                  spare = f.spare;
                  answers = λ j x e. let a = f.answers j x e in (le_up x.turn n a.0, (a.1.0, a.1.1, prefix_trans a.1.1 r.log log' a.1.2 onward, a.1.3, a.1.4));
                });
            book = book_more topic adds (length begun) n r.log s.views id v w m log' at mine_is refl all_at size refl sits onward new r.book;
            shared = omega arith;
            few = r.few;
            low = omega arith;
            begins = prefix_trans begun r.log log' r.begins onward;
          },
          (has, subst (λ (c : List (ℕ × S)). LeavesWith history c me n (w, carried_after c gives)) (sym carry.2) refl, rising),
        )
