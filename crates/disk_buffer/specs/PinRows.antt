-- The rows of pins, and the pins that they are.
use Rattle.std.specs.Prelude.{ℕ, ◌≡◌, ◌==◌, List, [], ◌∷◌, Option, Some, None, Bool, true, ◌&&◌, ◌||◌, max, nat_lt, map, if◌then◌else◌}
use Rattle.part_model.specs.declared.space.HeldPin.{HeldPin}
use Rattle.part_model.specs.Held.{pins_without}
use Rattle.sum_trees.specs.Order.{has_like}
use Rattle.disk_buffer.specs.declared.pin_row.PinRow.{PinRow}

-- pins stand in the order of their files, and those of a file in the order of their owners
abbrev pub pin_before : PinRow → PinRow → Bool
pin_before a b = nat_lt a.file b.file || (a.file == b.file && nat_lt a.owner b.owner)

-- the pin of a row
abbrev pub pin_of : PinRow → HeldPin
pin_of r = record { file = r.file; owner = r.owner; until = r.until }

-- the pins of rows
abbrev pub pins_of : List PinRow → List HeldPin
pins_of rs = map pin_of rs

-- the greatest end of a file's pins, 0 where there is none
abbrev pub end_in : List HeldPin → ℕ → ℕ
end_in [] f = 0
end_in (p ∷ ps) f = if p.file == f then max p.until (end_in ps f) else end_in ps f

-- the later of a pin's end, where there is a pin, and another end
abbrev pub later_end : Option PinRow → ℕ → ℕ
later_end None until = until
later_end (Some r) until = max r.until until

-- a pin of the file, or none where there is none
abbrev pub TellsPin : ℕ → List PinRow → Option PinRow → Type 0
TellsPin f rs None = pins_without (f ∷ []) (pins_of rs) ≡ pins_of rs
TellsPin f rs (Some r) = (r.file ≡ f) × (has_like pin_before r rs ≡ true)
