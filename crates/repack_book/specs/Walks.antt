-- Walks along numbers that pass a test.
use Rattle.std.specs.Prelude.{ℕ, ◌≡◌, ◌<◌, ◌≤◌, Bool, true, Option, Some, None}

-- the least number from this one on that passes the test, none where none does
abbrev pub IsFirstFrom : (ℕ → Bool) → ℕ → Option ℕ → Type 0
IsFirstFrom p from None = (n : ℕ) → p n ≡ true → n < from
IsFirstFrom p from (Some m) = (p m ≡ true) × (from ≤ m) × ((n : ℕ) → p n ≡ true → from ≤ n → m ≤ n)
