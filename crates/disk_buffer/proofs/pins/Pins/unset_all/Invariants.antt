use Rattle.std.proofs.Common.{◌≡◌, ◌≤◌, length}
use Rattle.sum_trees.specs.Forests.{items_in}
use Rattle.disk_buffer.specs.PinRows.{pins_of}
use Rattle.disk_buffer.proofs.PinLists.{SameBut}
use Rattle.disk_buffer.proofs.pins.Pins.unset_all.Given as goal

abbrev pub invariant-loop-row : goal.invariant-loop-row
invariant-loop-row l =
    (length l.self-inside.forest.trees ≡ 1) × SameBut l.file (pins_of (items_in l.self-inside.forest.trees 0)) (pins_of (items_in l.initial.self-inside.forest.trees 0)) × (l.initial.self-inside.forest.room ≤ l.self-inside.forest.room)

abbrev pub decreases-loop-row : goal.decreases-loop-row
decreases-loop-row l = length (items_in l.self-inside.forest.trees 0)
