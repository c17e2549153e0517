-- Lists of bytes.
use Rattle.std.specs.Prelude.{◌≢◌, ℕ, List}
use Rattle.std.specs.List.{AllByRecursion}

-- no byte of these is c
abbrev pub Without : ℕ → List ℕ → Type 0
Without c bytes = AllByRecursion (λ b. b ≢ c) bytes
