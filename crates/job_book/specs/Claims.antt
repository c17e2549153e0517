-- How many jobs each mount claims.
use Rattle.std.specs.Prelude.{ℕ, ◌≡◌, ◌==◌, List, if◌then◌else◌, sum_by, unwrap_or}
use Rattle.std.specs.Map.{lookup, values_of}
use Rattle.job_book.specs.Maps.{JobKey}

-- the claims, as entries by job, and for how many more there is room
pub record Claimed : Type 0 where
  pub entries : List (JobKey × ℕ)
  pub room : ℕ

-- 1 for this mount, and 0 for any other
abbrev pub one_for : ℕ → ℕ → ℕ
one_for mount n = if n == mount then 1 else 0

-- how many of the entries are of a mount
abbrev pub claims_of : ℕ → List (JobKey × ℕ) → ℕ
claims_of mount es = sum_by (one_for mount) (values_of es)

-- the count that is kept of a mount, 0 where none is
abbrev pub counted_in : ℕ → List (ℕ × ℕ) → ℕ
counted_in mount counts = unwrap_or (lookup (λ k. mount == k) counts) 0

-- each mount's count is that of its entries
abbrev pub AreCounted : List (JobKey × ℕ) → List (ℕ × ℕ) → Type 0
AreCounted es counts = (mount : ℕ) → counted_in mount counts ≡ claims_of mount es
