-- What a call of a listener leaves of the links that it has left, where it tells them.
use Rattle.std.specs.Prelude.{◌≡◌, List, [], ◌∷◌, Result, Ok, Err, Some, None, ⊤, Bool, true}
use Rattle.std.specs.declared.option.Option.{Option}

-- told links stay as they were
abbrev pub KeepsLinks : {L : Type 0} → Option (List L) → Option (List L) → Type 0
KeepsLinks None new = ⊤
KeepsLinks (Some xs) new = new ≡ Some xs

-- the first of the told links was given, or none is left
abbrev pub GivesLink : {L : Type 0} → Option (List L) → Option (List L) → Option L → Type 0
GivesLink None new given = ⊤
GivesLink (Some []) new given = (given ≡ None) × (new ≡ Some [])
GivesLink (Some (x ∷ xs)) new given = (given ≡ Some x) × (new ≡ Some xs)

-- `next()` gave the first link that was left, and `None` exactly where none was; a fault leaves the links
abbrev pub Accepts : {L E : Type 0} → Option (List L) → Option (List L) → Result (Option L) E → Type 0
Accepts old new (Ok given) = GivesLink old new given
Accepts old new (Err e) = KeepsLinks old new

-- a listener has ended where a call gave `None`, and where it had ended before
abbrev pub ended_after : {L E : Type 0} → Bool → Result (Option L) E → Bool
ended_after old (Ok None) = true
ended_after old (Ok (Some x)) = old
ended_after old (Err e) = old
