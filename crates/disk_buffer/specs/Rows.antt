-- The rows of resident files, their order, their sums, and what is sought.
use Rattle.std.specs.Prelude.{ℕ, ◌+◌, Bool, true, false, not, ◌&&◌, ◌||◌, min, nat_le, nat_lt, if◌then◌else◌}
use Rattle.disk_buffer.specs.declared.row.Row.{Row}
use Rattle.disk_buffer.specs.declared.row.Readiness.{Readiness}
use Rattle.disk_buffer.specs.declared.row.Wanted.{Wanted}

-- rows stand in the order of their arrivals
abbrev pub row_before : Row → Row → Bool
row_before a b = nat_lt a.arrival b.arrival

-- what one row makes
abbrev pub own_readiness : Row → Readiness
own_readiness r = record { bytes = if r.ready then r.len else 0; least = r.until; waits = r.safe && not r.ready; ready = r.ready }

-- the least of two ends, of which each may stand for none
abbrev pub least_end : Bool → ℕ → Bool → ℕ → ℕ
least_end false m c n = n
least_end true m false n = m
least_end true m true n = min m n

-- what the rows of two sums make together, the bytes standing still at their greatest number
abbrev pub both_readiness : Readiness → Readiness → Readiness
both_readiness a b = record {
  bytes = min (a.bytes + b.bytes) 18446744073709551615;
  least = least_end a.waits a.least b.waits b.least;
  waits = a.waits || b.waits;
  ready = a.ready || b.ready;
}

-- whether a sum is that of rows with one that is sought
abbrev pub has_wanted : Wanted → Readiness → Bool
has_wanted w s = (w.ready && s.ready) || (s.waits && nat_le s.least w.at)
