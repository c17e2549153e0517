-- What callers are told of a turn, and at the end.
use Rattle.std.specs.Prelude.{◌≡◌, ℕ, ◌+◌, ◌<◌, ◌≤◌, ◌⊎◌, Bool, true, List, [], ◌∷◌, ◌++◌, Option, Some, length}
use mathlib.Core.List.{IsPrefix}
use mathlib.Core.Option.{some}
use lib.ListN.{get_elem?}
use Rattle.turn_hall.specs.declared.view.Made.{Made}
use Rattle.turn_hall.specs.declared.view.View.{View}
use Rattle.turn_hall.specs.Lists.{one_if, Once, Between}
use Rattle.turn_hall.specs.Calls.{made_in, merged}
use Rattle.turn_hall.specs.Topics.{Unasked}
use Rattle.turn_hall.specs.Views.{turns_at, adds_at}

-- no entry behind those that were seen is of a topic that one of these calls opened
abbrev pub Apart : {W E C B : Type 0} → (E → Option ℕ) → (C → B → Bool) → List E → View W E C B → Type 0
Apart {W} {E} topic adds log v = (p q : ℕ) (e f : E) → 0 < adds_at adds p v → get_elem? log p ≡ some e → topic e ≡ Some (p + 1) → length v.seen ≤ q → get_elem? log q ≡ some f → topic f ≡ Some (p + 1) → ⊥

-- the topic that is asked about was opened by one of these calls
abbrev pub Opened : {W E C B : Type 0} → (E → Option ℕ) → (C → B → Bool) → Option ℕ → View W E C B → Type 0
Opened {W} {E} topic adds asked v = (k : ℕ) → asked ≡ Some k → (p : ℕ) × (e : E) × (k ≡ p + 1) × (0 < adds_at adds p v) × (get_elem? v.seen p ≡ some e) × (topic e ≡ Some (p + 1))

-- A call was played in one turn, whose ticket is below 2^62: on a history that begins with all that was seen, and in which no other entry behind that is of a topic
-- that one of the caller's calls opened. The call is the last of the caller's calls, and the caller has seen the history that it left
pub record Turned {W E C B : Type 0} (legal : List E → Type 0) (plays : List E → C → B → List E → Type 0) (topic : E → Option ℕ) (adds : C → B → Bool) (v : View W E C B) (call : C) (back : B) (w : View W E C B) : Type 0 where
  pub turn : ℕ
  pub before : List E
  pub served : turn < 4611686018427387904
  pub later : v.turns ≤ turn
  pub turns : w.turns ≡ turn + 1
  pub onward : IsPrefix v.seen before
  pub apart : Apart topic adds before v
  pub was_legal : legal before
  pub is_legal : legal w.seen
  pub played : plays before call back w.seen
  pub seen : IsPrefix v.seen w.seen
  pub grown : length w.seen ≡ length before + one_if (adds call back)
  pub mine : w.mine ≡ v.mine ++ made_in turn (length before) call back ∷ []
  pub seats : w.seats ≡ v.seats
  pub site : w.site ≡ v.site

-- All calls are accounted for: there is one for each turn, and one for each entry behind those that were there at first, and each was
-- answered on a beginning of what was seen
pub record Accounted {W E C B : Type 0} (plays : List E → C → B → List E → Type 0) (adds : C → B → Bool) (begun : List E) (v : View W E C B) : Type 0 where
  pub turns : (n : ℕ) → Once n (length v.mine) (turns_at n v)
  pub known : v.turns ≤ length v.mine
  pub begins : IsPrefix begun v.seen
  pub entries : (p : ℕ) → Between p (length begun) (length v.seen) (adds_at adds p v)
  pub answers : (k : ℕ) (m : Made C B) → get_elem? v.mine k ≡ some m → (h : List E) × (h' : List E) × IsPrefix h' v.seen × (length h ≡ m.at) × plays h m.call m.back h'

-- ---- topics that were opened

-- what one of the calls opened stays opened when there are more calls
abbrev pub OpenedStays : (W : Type 0) → {E C B : Type 0} → (E → Option ℕ) → (C → B → Bool) → Type 0
OpenedStays W {E} {C} {B} topic adds =
    (v w : View W E C B) (more : List (Made C B)) (asked : Option ℕ) → w.mine ≡ v.mine ++ more → IsPrefix v.seen w.seen → Opened topic adds asked v → Opened topic adds asked w

-- what calls of one of two passes opened stays opened when they are joined
abbrev pub OpenedJoins : (W : Type 0) → {E C B : Type 0} → (E → Option ℕ) → (C → B → Bool) → Type 0
OpenedJoins W {E} {C} {B} topic adds =
    (v w u : View W E C B) (asked : Option ℕ) → u.mine ≡ merged v.mine w.mine → IsPrefix v.seen u.seen → IsPrefix w.seen u.seen
    → Opened topic adds asked v ⊎ Opened topic adds asked w → Opened topic adds asked u

-- what stands behind the entries that were seen is of no topic that one of the calls opened
abbrev pub OthersStayApart : (W : Type 0) → {E C B : Type 0} → (E → Option ℕ) → (C → B → Bool) → Type 0
OthersStayApart W {E} {C} {B} topic adds =
    (v : View W E C B) (log : List E) (asked : Option ℕ) → IsPrefix v.seen log → Apart topic adds log v → Opened topic adds asked v → Unasked topic asked v.seen log

-- a call opens the topic of its entry, where that is the entry's own number
abbrev pub CallOpens : (W : Type 0) → {E C B : Type 0} → (E → Option ℕ) → (C → B → Bool) → Type 0
CallOpens W {E} {C} {B} topic adds =
    (v w : View W E C B) (n p : ℕ) (call : C) (back : B) (e : E) → w.mine ≡ v.mine ++ made_in n p call back ∷ [] → adds call back ≡ true → get_elem? w.seen p ≡ some e → topic e ≡ Some (p + 1)
    → Opened topic adds (Some (p + 1)) w
