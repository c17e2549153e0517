-- What each step of a turn tells.
use Rattle.std.specs.Prelude.{◌≡◌, ℕ, ◌==◌, ◌+◌, ◌<◌, ◌≤◌, Bool, true, false, List, [], ◌∷◌, Option, Some, None}
use mathlib.Core.List.{IsPrefix}
use Rattle.atomic_table.specs.Table.{Me, Step}
use Rattle.turn_hall.specs.declared.view.View.{View}
use Rattle.turn_hall.specs.declared.view.Last.{Last}
use Rattle.turn_hall.specs.declared.view.InSlot.{InSlot}
use Rattle.turn_hall.specs.Views.{holding, waited, entered, passed_on, is_called, adds_at}
use Rattle.turn_hall.specs.Calls.{RisesFrom}
use Rattle.turn_hall.specs.Promises.{Apart}
use Rattle.turn_hall.specs.Rule.{WasKept}

-- one of these calls added the entry of the number that is asked about
abbrev pub HasBegun : {W E C B : Type 0} → (C → B → Bool) → Option ℕ → View W E C B → Type 0
HasBegun adds asked v = (k : ℕ) → asked ≡ Some k → (p : ℕ) × (k ≡ p + 1) × (0 < adds_at adds p v)

-- a pass at rest
abbrev pub IsAtRest : {S W E C B : Type 0} → Me S (View W E C B) → Type 0
IsAtRest m = (m.0.ticket ≡ None) × (m.0.in_turn ≡ false) × (m.1 ≡ []) × (0 < m.0.seats)

-- a view of a hall, with the slots in hand
abbrev pub Sat : Type 0 → Type 0 → Type 0 → Type 0 → Type 0 → Type 0
Sat T W E C B = Me (Option (InSlot T C B)) (View W E C B)

-- a step of a hall
abbrev pub At : Type 0 → Type 0 → Type 0 → Type 0
At T C B = Step (Option (InSlot T C B))

module _ {T W E C B : Type 0} where
  -- what was seen and heard are beginnings of one history, what was seen is legal, and the calls are in the order of their turns
  abbrev pub HasHeard : (T → List E) → (Option W → T → Type 0) → View W E C B → Type 0
  HasHeard history right v = (v.seats < 4294967296) × ((log : List E) × IsPrefix v.seen log × IsPrefix v.heard log) × (0 < v.seats → WasKept history right v.site v.seen) × RisesFrom 0 v.mine

  -- a draw whose ticket was the next one, and one whose ticket was not
  abbrev pub DrawsIf : Bool → Sat T W E C B → ℕ → Sat T W E C B → Type 0
  DrawsIf true m n w = w ≡ (holding m.0 n, [])
  DrawsIf false m n w = w ≡ m

  -- a draw: where the number that was read is the ticket that is wanted, the view has it
  abbrev pub DrawTells : At T C B → Sat T W E C B → ℕ → Sat T W E C B → Type 0
  DrawTells s m n w = DrawsIf (n == s.first) m n w

  -- in turn the view has the value, and has seen its history, which begins with all that it had seen
  abbrev pub EntersWith : (T → List E) → (Option W → T → Type 0) → (E → Option ℕ) → (C → B → Bool) → Sat T W E C B → ℕ → Sat T W E C B → Type 0
  EntersWith history right topic adds m n w = (k : InSlot T C B) × (w ≡ (entered m.0 n (history k.value), (0, Some k) ∷ m.1)) × IsPrefix m.0.seen (history k.value) × Apart topic adds (history k.value) m.0 × right m.0.site k.value

  -- a look whose number is not the ticket, and one whose number is
  abbrev pub SeesOrEnters : (T → List E) → (Option W → T → Type 0) → (E → Option ℕ) → (C → B → Bool) → Bool → Sat T W E C B → ℕ → Sat T W E C B → Type 0
  SeesOrEnters history right topic adds false m n w = w ≡ (waited m.0 n, m.1)
  SeesOrEnters history right topic adds true m n w = EntersWith history right topic adds m n w

  -- a look: the number that was read is no smaller than the view knew
  abbrev pub LookTells : (T → List E) → (Option W → T → Type 0) → (E → Option ℕ) → (C → B → Bool) → At T C B → Sat T W E C B → ℕ → Sat T W E C B → Type 0
  LookTells history right topic adds s m n w = (m.0.turns ≤ n) × SeesOrEnters history right topic adds (is_called n m.0.ticket) m n w × HasHeard history right m.0

  -- the value that was in hand goes back, and the view has seen its history and has the call beside it
  abbrev pub LeavesWith : (T → List E) → List (ℕ × Option (InSlot T C B)) → Sat T W E C B → ℕ → Sat T W E C B → Type 0
  LeavesWith history [] m n w = Unit {0}
  LeavesWith history ((i, None) ∷ c) m n w = Unit {0}
  LeavesWith history ((i, Some k) ∷ c) m n w = w ≡ (passed_on m.0 n (history k.value) k.last, c)

  -- a pass-on: the number that was read is the ticket, and the calls are in the order of their turns
  abbrev pub PassTells : (T → List E) → At T C B → Sat T W E C B → ℕ → Sat T W E C B → Type 0
  PassTells history s m n w = (m.0.ticket ≡ Some n) × LeavesWith history m.1 m n w × RisesFrom 0 w.0.mine

  -- the value is in hand, and its history is what the call in it made of what was seen
  abbrev pub CarriesPlay : (T → List E) → (T → Type 0) → (List E → C → B → List E → Type 0) → (C → B → Bool) → (C → Option ℕ) → Sat T W E C B → Type 0
  CarriesPlay history good plays adds asks m = (k : InSlot T C B) × (l : Last C B) × (m.1 ≡ (0, Some k) ∷ []) × (k.last ≡ Some l) × plays m.0.seen l.call.value l.back.value (history k.value) × HasBegun adds (asks l.call.value) m.0 × good k.value

  -- in the turn of this ticket the view has the value, and has seen its history, which begins with all that it had seen
  abbrev pub HasEntered : (T → List E) → (Option W → T → Type 0) → (E → Option ℕ) → (C → B → Bool) → View W E C B → ℕ → Sat T W E C B → Type 0
  HasEntered history right topic adds v t w = (k : InSlot T C B) × (w ≡ (entered (holding v t) t (history k.value), (0, Some k) ∷ [])) × IsPrefix v.seen (history k.value) × (v.turns ≤ t) × Apart topic adds (history k.value) v × right v.site k.value

  -- the value in hand has played the call
  abbrev pub HasPlayed : (T → List E) → (List E → C → B → List E → Type 0) → C → B → Sat T W E C B → Type 0
  HasPlayed history plays call back m = (k : InSlot T C B) × (l : Last C B) × (m.1 ≡ (0, Some k) ∷ []) × (k.last ≡ Some l) × (l.call.value ≡ call) × (l.back.value ≡ back) × plays m.0.seen call back (history k.value)
