-- Rows that become ready.
use Rattle.std.specs.Prelude.{ℕ, ◌≡◌, List, [], ◌∷◌, true, false, filter}
use Rattle.disk_buffer.specs.declared.row.Row.{Row}
use Rattle.disk_buffer.specs.Rows.{has_wanted, own_readiness}
use Rattle.disk_buffer.specs.Stays.{is_free}

-- the row, ready
abbrev pub settled : Row → Row
settled r = record { arrival = r.arrival; len = r.len; until = r.until; file = r.file; safe = r.safe; ready = true }

-- the rows that are ready
abbrev pub ready_rows : List Row → List Row
ready_rows rs = filter (λ (r : Row). r.ready) rs

-- the row as it was, or ready where it may go at t
pub data IsSettled (t : ℕ) (r u : Row) : Type 0 where
  Same : u ≡ r → IsSettled t r u
  Ready : u ≡ settled r → is_free t r ≡ true → IsSettled t r u

-- each row as it was, or ready where it may go at t
abbrev pub AreSettled : ℕ → List Row → List Row → Type 0
AreSettled t [] [] = Unit {0}
AreSettled t [] (u ∷ us) = ⊥
AreSettled t (r ∷ rs) [] = ⊥
AreSettled t (r ∷ rs) (u ∷ us) = IsSettled t r u × AreSettled t rs us

-- no row is safe and not ready and ends up to t
abbrev pub NoneWaits : ℕ → List Row → Type 0
NoneWaits t [] = Unit {0}
NoneWaits t (r ∷ rs) = (has_wanted (record { at = t; ready = false }) (own_readiness r) ≡ false) × NoneWaits t rs
