-- Numbers as bytes, each with what follows: a number is big-endian in the width of its type.
use Rattle.std.specs.Prelude.{ℕ, Bool, true, false, List, ◌∷◌, ◌++◌, ◌<◌, ◌^◌}
use Rattle.std.specs.Int.{w16, w32, w64, to_be_bytes}

-- a number of one byte
abbrev pub byte : ℕ → List ℕ → List ℕ
byte n rest = n ∷ rest

-- a number of two bytes
abbrev pub half : ℕ → List ℕ → List ℕ
half n rest = to_be_bytes w16 n ++ rest

-- a number of four bytes
abbrev pub number : ℕ → List ℕ → List ℕ
number n rest = to_be_bytes w32 n ++ rest

-- a number of eight bytes
abbrev pub long_number : ℕ → List ℕ → List ℕ
long_number n rest = to_be_bytes w64 n ++ rest

-- a truth value is one byte, 0 or 1
abbrev pub truth : Bool → List ℕ → List ℕ
truth false rest = 0 ∷ rest
truth true rest = 1 ∷ rest

-- ---- values that have bytes: a number has the width of its type

abbrev pub IsByte : ℕ → Type 0
IsByte n = n < 2 ^ 8

abbrev pub IsHalf : ℕ → Type 0
IsHalf n = n < 2 ^ 16

abbrev pub IsNumber : ℕ → Type 0
IsNumber n = n < 2 ^ 32

abbrev pub IsLong : ℕ → Type 0
IsLong n = n < 2 ^ 64

-- each value has bytes
abbrev pub IsAny : {V : Type 0} → V → Type 0
IsAny v = Unit {0}
