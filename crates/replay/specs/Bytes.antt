-- Lists of bytes.
use Rattle.std.specs.Prelude.{◌≡◌, ◌≢◌, ℕ, List, ◌∷◌, ◌++◌, length, slice_index}

-- bs begins with no `+`, and with `0` only where that is all
abbrev pub IsPlain : List ℕ → Type 0
IsPlain bs = (slice_index bs 0 ≢ 43) × (slice_index bs 0 ≡ 48 → length bs ≡ 1)

-- a part, the byte that ends it, and the rest
abbrev pub then_byte : ℕ → List ℕ → List ℕ → List ℕ
then_byte c part rest = part ++ c ∷ rest
