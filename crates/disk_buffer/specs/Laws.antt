-- The laws of the orders and sums of rows.
use Rattle.std.specs.Prelude.{ℕ, ◌≡◌, ◌+◌, Bool, true, false, ◌&&◌, ◌||◌, min, max, nat_le, refl}
use Rattle.std.proofs.Common.{◌∙◌, arith}
use Rattle.disk_buffer.specs.declared.row.Row.{Row}
use Rattle.disk_buffer.specs.declared.row.Readiness.{Readiness}
use Rattle.disk_buffer.specs.declared.row.Wanted.{Wanted}
use Rattle.disk_buffer.specs.declared.pin_row.PinRow.{PinRow}
use Rattle.disk_buffer.specs.Rows.{row_before, least_end, both_readiness, has_wanted}
use Rattle.disk_buffer.specs.PinRows.{pin_before}

-- of two rows one at most comes first
pub rows_one_way : (a b : Row) → row_before a b ≡ true → row_before b a ≡ false
rows_one_way a b e = grind arith

-- a row between two others comes behind the first or before the second
pub rows_split : (a b c : Row) → row_before a c ≡ true → (row_before a b || row_before b c) ≡ true
rows_split a b c e = grind arith

least_joins : (a : Bool) (l : ℕ) (b : Bool) (m : ℕ) (c : Bool) (n : ℕ) → least_end (a || b) (least_end a l b m) c n ≡ least_end a l (b || c) (least_end b m c n)
least_joins false l b m c n = refl
least_joins true l false m c n = refl
least_joins true l true m false n = refl
least_joins true l true m true n = omega arith

either_joins : (a b c : Bool) → ((a || b) || c) ≡ (a || (b || c))
either_joins true b c = refl
either_joins false b c = refl

-- sums are the same in any grouping
pub readiness_joins : (a b c : Readiness) → both_readiness (both_readiness a b) c ≡ both_readiness a (both_readiness b c)
readiness_joins a b c =
    let bytes : min (min (a.bytes + b.bytes) 18446744073709551615 + c.bytes) 18446744073709551615 ≡ min (a.bytes + min (b.bytes + c.bytes) 18446744073709551615) 18446744073709551615 = omega arith in
    let least = least_joins a.waits a.least b.waits b.least c.waits c.least in
    let waits = either_joins a.waits b.waits c.waits in
    let ready = either_joins a.ready b.ready c.ready in
    λ i. record { bytes = bytes i; least = least i; waits = waits i; ready = ready i }

reaches_either : (m n t : ℕ) → nat_le (min m n) t ≡ (nat_le m t || nat_le n t)
reaches_either m n t = grind arith

no_or : (a : Bool) → a ≡ (a || false)
no_or true = refl
no_or false = refl

waits_either : (a : Bool) (m : ℕ) (b : Bool) (n t : ℕ) → ((a || b) && nat_le (least_end a m b n) t) ≡ ((a && nat_le m t) || (b && nat_le n t))
waits_either false m b n t = refl
waits_either true m false n t = no_or (nat_le m t)
waits_either true m true n t = reaches_either m n t

mixed : (w a b x y : Bool) → ((w && (a || b)) || (x || y)) ≡ (((w && a) || x) || ((w && b) || y))
mixed false a b x y = refl
mixed true true b x y = refl
mixed true false true true y = refl
mixed true false true false y = refl
mixed true false false x y = refl

-- a joined sum has what is sought exactly where one of the two has it
pub either_has : (w : Wanted) (a b : Readiness) → has_wanted w (both_readiness a b) ≡ (has_wanted w a || has_wanted w b)
either_has w a b =
    (λ i. (w.ready && (a.ready || b.ready)) || waits_either a.waits a.least b.waits b.least w.at i) ∙ mixed w.ready a.ready b.ready (a.waits && nat_le a.least w.at) (b.waits && nat_le b.least w.at)

-- greatest ends are the same in any grouping
pub ends_join : (a b c : ℕ) → max (max a b) c ≡ max a (max b c)
ends_join a b c = omega arith

-- of two pins one at most comes first
pub pins_one_way : (a b : PinRow) → pin_before a b ≡ true → pin_before b a ≡ false
pins_one_way a b e = grind arith

-- a pin between two others comes behind the first or before the second
pub pins_split : (a b c : PinRow) → pin_before a c ≡ true → (pin_before a b || pin_before b c) ≡ true
pins_split a b c e = grind arith
