-- Walks over the rows that are sought.
use Rattle.std.specs.Prelude.{ℕ, ◌-◌, List, [], ◌∷◌, Option, Some, None, ◌&&◌, if◌then◌else◌, filter, nat_le}
use Rattle.part_model.specs.declared.space.Resident.{Resident}
use Rattle.disk_buffer.specs.declared.row.Row.{Row}
use Rattle.disk_buffer.specs.declared.row.Wanted.{Wanted}
use Rattle.disk_buffer.specs.Rows.{has_wanted, own_readiness, row_before}
use Rattle.disk_buffer.specs.Stays.{residents, stays_of}

-- the rows that are sought
abbrev pub sought : Wanted → List Row → List Row
sought w rs = filter (λ (r : Row). has_wanted w (own_readiness r)) rs

-- of these rows those that end up to t, as the buffer tells them
abbrev pub ended_by : ℕ → List Row → List Resident
ended_by t rs = residents (stays_of (filter (λ (r : Row). nat_le r.until t) rs))

-- how many bytes are lacking behind a row, which is taken where it ends up to t
abbrev pub lacking_behind : ℕ → Row → ℕ → ℕ
lacking_behind t r n = if nat_le r.until t then n - r.len else n

-- a row and the sought ones behind it, none where there is no row
abbrev pub rest_from : Wanted → List Row → Option Row → List Row
rest_from w rs None = []
rest_from w rs (Some y) = y ∷ filter (λ (z : Row). row_before y z && has_wanted w (own_readiness z)) rs
