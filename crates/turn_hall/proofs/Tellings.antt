-- What the steps of a turn tell together.
use Rattle.std.proofs.Common.{◌≡◌, ℕ, ◌+◌, ◌<◌, ◌≤◌, Bool, List, [], ◌∷◌, ◌++◌, length, refl, sym, ap, ◌∙◌, subst, le_trans, Option, Some, None}
use mathlib.Core.List.{IsPrefix}
use Rattle.std.specs.declared.snapshot.Snapshot.{Snapshot}
use Rattle.atomic_table.specs.Table.{Me, rest}
use Rattle.turn_hall.specs.declared.view.View.{View}
use Rattle.turn_hall.specs.declared.view.Last.{Last}
use Rattle.turn_hall.specs.declared.view.InSlot.{InSlot}
use Rattle.turn_hall.specs.Lists.{one_if}
use Rattle.turn_hall.specs.Calls.{made_in}
use Rattle.turn_hall.specs.Views.{holding, waited, entered, passed_on}
use Rattle.turn_hall.specs.Promises.{Turned, Apart, Opened}
use Rattle.turn_hall.specs.Told.{IsAtRest, CarriesPlay, HasEntered, HasPlayed, HasBegun}
use Rattle.turn_hall.specs.Topics.{Unasked}
use mathlib.Core.Option.{some}
use lib.ListN.{get_elem?}
use Rattle.turn_hall.proofs.Books.{prefix_at}
use Rattle.turn_hall.proofs.Prefixes.{prefix_trans}

-- the first slot in hand, or d
abbrev slot_in : {A : Type 0} → A → List (ℕ × A) → A
slot_in d [] = d
slot_in d (x ∷ xs) = x.1

pub rest_of : {A : Type 0} (c : List (ℕ × A)) (x : ℕ × A) → c ≡ x ∷ [] → c ≡ x ∷ rest c
rest_of c x e = e ∙ ap (λ r. x ∷ r) (sym (ap rest e))

module _ {T W E C B : Type 0} (history : T → List E) (right : Option W → T → Type 0) (plays : List E → C → B → List E → Type 0) (topic : E → Option ℕ) (adds : C → B → Bool) where
  abbrev V : Type 0
  V = View W E C B

  abbrev K : Type 0
  K = InSlot T C B

  abbrev M : Type 0
  M = Me (Option K) V

  pub enter_told : (v : V) (t n : ℕ) (me me' : M) → me ≡ (waited (holding v t) n, []) → v.turns ≤ n
      → ((k : K) × (me' ≡ (entered me.0 t (history k.value), (0, Some k) ∷ [])) × IsPrefix me.0.seen (history k.value) × (me.0.turns ≤ t) × Apart topic adds (history k.value) me.0 × right me.0.site k.value)
      → HasEntered history right topic adds v t me'
  enter_told v t n me me' is more told =
      subst (λ (z : M). ((k : K) × (me' ≡ (entered z.0 t (history k.value), (0, Some k) ∷ [])) × IsPrefix z.0.seen (history k.value) × (z.0.turns ≤ t) × Apart topic adds (history k.value) z.0 × right z.0.site k.value) → HasEntered history right topic adds v t me') (sym is)
      (λ h. (h.0, h.1, h.2, le_trans more h.3, h.4, h.5)) told

  pub play_told : (me m1 m2 : M) (k : K) (r1 : Option K) (kept : K) (value' : T) (call : C) (back : B) (b : Snapshot C) (a : Snapshot B)
      → me.1 ≡ (0, Some k) ∷ [] → history k.value ≡ me.0.seen
      → me.1 ≡ (0, r1) ∷ rest me.1 → m1 ≡ (me.0, (0, None) ∷ rest me.1) → r1 ≡ Some kept
      → m2 ≡ (m1.0, (0, Some record { value = value'; last = Some record { call = b; back = a } }) ∷ rest m1.1)
      → b.value ≡ call → a.value ≡ back → plays (history kept.value) call back (history value')
      → HasPlayed history plays call back m2
  play_told me m1 m2 k r1 kept value' call back b a in_hand seen took first was second before after played =
      let l : Last C B = record { call = b; back = a } in
      let k' : K = record { value = value'; last = Some l } in
      let none_left : rest me.1 ≡ [] = ap rest in_hand in
      let none_left' : rest m1.1 ≡ [] = ap (λ (m : M). rest m.1) first ∙ none_left in
      let is : m2 ≡ (me.0, (0, Some k') ∷ []) = second ∙ (λ i. ((first i).0, (0, Some k') ∷ none_left' i)) in
      let heads : r1 ≡ Some k = ap (slot_in r1) (sym took ∙ in_hand) in
      let one : kept ≡ k = some_is kept k (sym was ∙ heads) in
      let old : history kept.value ≡ m2.0.seen = ap (λ (z : K). history z.value) one ∙ seen ∙ sym (ap (λ (m : M). m.0.seen) is) in
      (k', l, ap (λ (m : M). m.1) is, refl, before, after, subst (λ z. plays z call back (history value')) old played)
    where
      some_is : (x y : K) → Some x ≡ Some y → x ≡ y
      some_is x y e = cc

  pub played_carries : (good : T → Type 0) (asks : C → Option ℕ) (call : C) (back : B) (m : M) → HasBegun adds (asks call) m.0 → ((k : K) → m.1 ≡ (0, Some k) ∷ [] → good k.value) → HasPlayed history plays call back m → CarriesPlay history good plays adds asks m
  played_carries good asks call back m began fine p = (p.0, p.1, p.2, p.3, subst (λ (z : C × B). plays m.0.seen z.0 z.1 (history p.0.value)) (λ i. (sym p.4 i, sym p.5 i)) p.6, subst (λ z. HasBegun adds (asks z) m.0) (sym p.4) began, fine p.0 p.2)

  -- one turn, from its parts
  pub turn_told : ((h : List E) (call : C) (back : B) (h' : List E) → plays h call back h' → IsPrefix h h' × (length h' ≡ length h + one_if (adds call back))) → (legal : List E → Type 0) → ((h : List E) (call : C) (back : B) (h' : List E) → legal h → plays h call back h' → legal h') → (v : V) (t n : ℕ) (m1 m2 m3 : M) (call : C) (back : B) → 0 < v.seats → t < 4611686018427387904 → ((k : K) → right v.site k.value → legal (history k.value)) → HasEntered history right topic adds v t m1 → m2.0 ≡ m1.0 → HasPlayed history plays call back m2 → m2.0.ticket ≡ Some n
      → ((k : K) → m2.1 ≡ (0, Some k) ∷ [] → m3 ≡ (passed_on m2.0 n (history k.value) k.last, [])) → IsAtRest m3 × Turned legal plays topic adds v call back m3.0
  turn_told grows legal sounds v t n m1 m2 m3 call back some_seat served fine enter same play is pass =
      let k : K = play.0 in
      let l : Last C B = play.1 in
      let h : List E = history enter.0.value in
      let v2 : m2.0 ≡ entered (holding v t) t h = same ∙ ap (λ (m : M). m.0) enter.1 in
      let number : t ≡ n = one_of (ap (λ (u : V). u.ticket) (sym v2) ∙ is) in
      let last : k.last ≡ Some l = play.3 in
      let end : m3 ≡ (passed_on (entered (holding v t) t h) t (history k.value) (Some l), []) =
      pass k play.2 ∙ (λ i. (passed_on (v2 i) (sym number i) (history k.value) (last i), [])) in
      let seen : plays h call back (history k.value) = subst (λ (u : V). plays u.seen call back (history k.value)) v2 play.6 in
      let now : m3.0.seen ≡ history k.value = ap (λ (m : M). m.0.seen) end in
      let more : IsPrefix h (history k.value) × (length (history k.value) ≡ length h + one_if (adds call back)) = grows h call back (history k.value) seen in
      let mine : m3.0.mine ≡ v.mine ++ made_in t (length h) call back ∷ [] =
      ap (λ (m : M). m.0.mine) end ∙ (λ i. v.mine ++ made_in t (length h) (play.4 i) (play.5 i) ∷ []) in (
        (ap (λ (m : M). m.0.ticket) end, ap (λ (m : M). m.0.in_turn) end, ap (λ (m : M). m.1) end, subst (λ (m : M). 0 < m.0.seats) (sym end) some_seat),
        record {
          turn = t;
          before = h;
          served = served;
          later = enter.3;
          turns = ap (λ (m : M). m.0.turns) end;
          onward = enter.2;
          apart = enter.4;
          was_legal = fine enter.0 enter.5;
          is_legal = subst legal (sym now) (sounds h call back (history k.value) (fine enter.0 enter.5) seen);
          played = subst (plays h call back) (sym now) seen;
          seen = subst (IsPrefix v.seen) (sym now) (prefix_trans v.seen h (history k.value) enter.2 more.0);
          grown = subst (λ (l : List E). length l ≡ length h + one_if (adds call back)) (sym now) more.1;
          mine = mine;
          seats = ap (λ (m : M). m.0.seats) end;
          site = ap (λ (m : M). m.0.site) end;
        },
      )
    where
      one_of : {a b : ℕ} → Some a ≡ Some b → a ≡ b
      one_of e = cc

  -- what was asked about was opened by one of the caller's calls, so no other has spoken of it
  pub unasked : (asked : Option ℕ) (v : V) (t : ℕ) (m : M) → Opened topic adds asked v → HasEntered history right topic adds v t m → Unasked topic asked v.seen m.0.seen
  unasked asked v t m opened enter q k f le at is about =
      let o = opened k about in
      let h : List E = history enter.0.value in
      let seen : m.0.seen ≡ h = ap (λ (z : M). z.0.seen) enter.1 in
      enter.4 o.0 q o.1 f o.3 (prefix_at v.seen h enter.2 o.0 o.1 o.4) o.5 le (subst (λ l. get_elem? l q ≡ some f) seen at) (is ∙ ap Some o.2)

  pub began : (asked : Option ℕ) (v : V) (t : ℕ) (m1 m2 : M) → Opened topic adds asked v → HasEntered history right topic adds v t m1 → m2.0 ≡ m1.0 → HasBegun adds asked m2.0
  began asked v t m1 m2 opened enter same =
      subst (HasBegun adds asked) (sym (same ∙ ap (λ (m : M). m.0) enter.1)) (λ k e. let o = opened k e in (o.0, o.2, o.3))

  pub right_after : (legal : List E → Type 0) → ((h : List E) (call : C) (back : B) (h' : List E) → legal h → plays h call back h' → legal h') → (v : V) (t : ℕ) (m1 m2 : M) (call : C) (back : B)
      → ((k : K) → right v.site k.value → legal (history k.value)) → HasEntered history right topic adds v t m1 → m2.0 ≡ m1.0 → HasPlayed history plays call back m2 → (k : K) → m2.1 ≡ (0, Some k) ∷ [] → legal (history k.value)
  right_after legal sounds v t m1 m2 call back fine enter same play k is =
      let seen : m2.0.seen ≡ history enter.0.value = ap (λ (u : V). u.seen) (same ∙ ap (λ (m : M). m.0) enter.1) in
      let one : play.0 ≡ k = the_same play.0 k (ap (slot_in None) (sym play.2 ∙ is)) in
      subst (λ (z : K). legal (history z.value)) one (sounds m2.0.seen call back (history play.0.value) (subst legal (sym seen) (fine enter.0 enter.5)) play.6)
    where
      the_same : (x y : K) → Some x ≡ Some y → x ≡ y
      the_same x y e = cc

  -- what was taken out of the hand is what lay in it
  pub kept_is : (c : List (ℕ × Option K)) (k : K) (r1 : Option K) (kept : K) → c ≡ (0, Some k) ∷ [] → c ≡ (0, r1) ∷ rest c → r1 ≡ Some kept → kept ≡ k
  kept_is c k r1 kept in_hand took was = the_same kept k (sym was ∙ ap (slot_in r1) (sym took ∙ in_hand))
    where
      the_same : (x y : K) → Some x ≡ Some y → x ≡ y
      the_same x y e = cc
