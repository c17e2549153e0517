-- The rule of a hall: what holds of its two words, its slot and all views, between any two steps.
use Rattle.std.specs.Prelude.{◌≡◌, ℕ, ◌+◌, ◌<◌, ◌≤◌, ◌⊎◌, Bool, true, false, List, [], ◌∷◌, Option, Some, length}
use mathlib.Core.List.{IsPrefix}
use mathlib.Core.Option.{none, some}
use mathlib.Core.Option as maybe
use lib.ListN.{get_elem?}
use Rattle.atomic_table.specs.Table.{State}
use Rattle.turn_hall.specs.declared.view.Made.{Made}
use Rattle.turn_hall.specs.declared.view.View.{View}
use Rattle.turn_hall.specs.declared.view.InSlot.{InSlot}
use Rattle.turn_hall.specs.Lists.{total, Once, Between}
use Rattle.turn_hall.specs.Calls.{RisesFrom}
use Rattle.turn_hall.specs.Views.{waiting, seats_of, calls_of, count_of, turns_at, adds_at}

-- the value is of this site, and its history is legal there
abbrev pub IsRightValue : {T W E : Type 0} → (T → W) → (W → List E → Type 0) → (T → List E) → Option W → T → Type 0
IsRightValue {T} {W} site legal history o t = (w : W) × (o ≡ Some w) × (site t ≡ w) × legal w (history t)

-- this was the history of a value of this site that a hall may keep, so it is legal
abbrev pub WasKept : {T W E : Type 0} → (T → List E) → (Option W → T → Type 0) → Option W → List E → Type 0
WasKept {T} history right o h = (t : T) × (history t ≡ h) × right o t

-- what holds of one view, where these are the two words and the history
pub record IsTrueView {W E C B : Type 0} (kept : List E → Type 0) (plays : List E → C → B → List E → Type 0) (o : Option W) (ticket serving : ℕ) (log : List E) (v : View W E C B) : Type 0 where
  pub sited : 0 < v.seats → v.site ≡ o
  pub bounds : (t : ℕ) → v.ticket ≡ Some t → (serving ≤ t) × (t < ticket)
  pub turn : v.in_turn ≡ true → (v.ticket ≡ Some serving) × (v.seen ≡ log)
  pub seated : count_of v.ticket ≤ v.seats
  pub known : v.turns ≤ serving
  pub saw : IsPrefix v.seen log
  pub lawful : 0 < v.seats → kept v.seen
  pub listened : IsPrefix v.heard log
  pub answers : (k : ℕ) (m : Made C B) → get_elem? v.mine k ≡ some m → (m.turn < serving) × ((h : List E) × (h' : List E) × IsPrefix h' log × (length h ≡ m.at) × plays h m.call m.back h')
  pub rises : RisesFrom 0 v.mine
  pub spare : v.seats ≡ 0 → v.mine ≡ []

-- An entry whose topic is its own number opens that topic. Each entry of a topic that one of these calls opened was added by one of these calls
abbrev pub KeepsTopics : {W E C B : Type 0} → (E → Option ℕ) → (C → B → Bool) → List E → View W E C B → Type 0
KeepsTopics {W} {E} topic adds log v = (p q : ℕ) (e f : E) → 0 < adds_at adds p v → get_elem? log p ≡ some e → topic e ≡ Some (p + 1) → get_elem? log q ≡ some f → topic f ≡ Some (p + 1) → 0 < adds_at adds q v

-- what holds of all calls: one for each turn, and one for each entry behind the first ones
pub record AreCounted {W E C B : Type 0} (topic : E → Option ℕ) (adds : C → B → Bool) (base serving : ℕ) (log : List E) (views : List (View W E C B)) : Type 0 where
  pub many : total calls_of views ≡ serving
  pub calls : (n : ℕ) → Once n serving (total (turns_at n) views)
  pub added : (p : ℕ) → Between p base (length log) (total (adds_at adds p) views)
  pub based : base ≤ length log
  pub owned : (i : ℕ) (v : View W E C B) → get_elem? views i ≡ some v → (p : ℕ) → 0 < adds_at adds p v → p < length v.seen
  pub low : (q k : ℕ) (f : E) → get_elem? log q ≡ some f → topic f ≡ Some k → k ≤ q + 1
  pub topics : (i : ℕ) (v : View W E C B) → get_elem? views i ≡ some v → KeepsTopics topic adds log v
  pub whole : (i : ℕ) × (v : View W E C B) × (get_elem? views i ≡ some v) × (v.seen ≡ log) × (0 < v.seats)

module _ {T W E C B : Type 0} (history : T → List E) (good : T → Type 0) where
  -- the value is at home with this history, or a view in turn has it
  abbrev pub LiesInSlot : List (maybe.Option (Option (InSlot T C B))) → List (View W E C B) → List E → Type 0
  LiesInSlot homes views log =
      ((k : InSlot T C B) × (homes ≡ some (Some k) ∷ []) × (history k.value ≡ log) × ((i : ℕ) (v : View W E C B) → get_elem? views i ≡ some v → v.in_turn ≡ false) × good k.value)
      ⊎ ((homes ≡ none ∷ []) × ((i : ℕ) × (v : View W E C B) × (get_elem? views i ≡ some v) × (v.in_turn ≡ true)))

-- The rule, for this number of seats in all and of entries at first
pub record KeepsRule {T W E C B : Type 0} (history : T → List E) (right : Option W → T → Type 0) (o : Option W) (plays : List E → C → B → List E → Type 0) (topic : E → Option ℕ) (adds : C → B → Bool) (all : ℕ) (begun : List E) (s : State (Option (InSlot T C B)) (View W E C B)) : Type 0 where
  pub ticket : ℕ
  pub serving : ℕ
  pub log : List E
  pub words : s.words ≡ ticket ∷ serving ∷ []
  pub lies : LiesInSlot history (right o) s.homes s.views log
  pub counted : serving + total waiting s.views ≡ ticket
  pub apart : (i j : ℕ) (v w : View W E C B) (t : ℕ) → get_elem? s.views i ≡ some v → get_elem? s.views j ≡ some w → v.ticket ≡ Some t → w.ticket ≡ Some t → i ≡ j
  pub each : (i : ℕ) (v : View W E C B) → get_elem? s.views i ≡ some v → IsTrueView (WasKept history right o) plays o ticket serving log v
  pub book : AreCounted topic adds (length begun) serving log s.views
  pub shared : total seats_of s.views ≡ all
  pub few : all < 4294967296
  pub begins : IsPrefix begun log
  pub low : serving ≤ 4611686018427387904
