-- Lists and optional values as bytes, with what follows.
use Rattle.std.specs.Prelude.{ℕ, ◌<◌, ◌^◌, List, [], ◌∷◌, length, Option, Some, None}
use Rattle.std.specs.List.{AllByRecursion}
use Rattle.record_fields.specs.Numbers.{number}

-- the values one behind the other
abbrev pub each_before : {V : Type 0} → (V → List ℕ → List ℕ) → List V → List ℕ → List ℕ
each_before before [] rest = rest
each_before before (v ∷ vs) rest = before v (each_before before vs rest)

-- a list is its count in four bytes, and its values
abbrev pub list_before : {V : Type 0} → (V → List ℕ → List ℕ) → List V → List ℕ → List ℕ
list_before before vs rest = number (length vs) (each_before before vs rest)

-- the count is one of four bytes, and each value fits
abbrev pub ListFits : {V : Type 0} → (V → Type 0) → List V → Type 0
ListFits fits vs = (length vs < 2 ^ 32) × AllByRecursion fits vs

-- an optional value is a byte 0, or a byte 1 and the value
abbrev pub option_before : {V : Type 0} → (V → List ℕ → List ℕ) → Option V → List ℕ → List ℕ
option_before before None rest = 0 ∷ rest
option_before before (Some v) rest = 1 ∷ before v rest

-- the value fits, if there is one
abbrev pub OptionFits : {V : Type 0} → (V → Type 0) → Option V → Type 0
OptionFits fits None = Unit {0}
OptionFits fits (Some v) = fits v
