-- What reading a field gives.
use Rattle.std.specs.Prelude.{◌≡◌, ℕ, List, Result, Ok, Err}
use Rattle.record_fields.specs.declared.field.TakeError.{TakeError}
use Rattle.record_fields.specs.declared.field.TakeError.TheVariants as error

-- a value that was taken fits, and the bytes are its own with what follows behind them
abbrev pub TookRightly : {V R : Type 0} → (V → List ℕ → List ℕ) → (V → Type 0) → (R → List ℕ) → List ℕ → Result (V × R) TakeError → Type 0
TookRightly before fits now bytes (Ok x) = fits x.0 × (bytes ≡ before x.0 (now x.1))
TookRightly before fits now bytes (Err e) = Unit {0}

-- a value was taken and this follows it, or memory ran out
abbrev pub TookUpTo : {V R : Type 0} → (R → List ℕ) → List ℕ → Result (V × R) TakeError → Type 0
TookUpTo now rest (Ok x) = now x.1 ≡ rest
TookUpTo now rest (Err error.NoMemory) = Unit {0}
TookUpTo now rest (Err error.Bad) = ⊥
