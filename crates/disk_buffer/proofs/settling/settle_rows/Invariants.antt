use Rattle.std.proofs.Common.{◌≡◌, ◌≤◌, length}
use Rattle.sum_trees.specs.Forests.{items_in}
use Rattle.disk_buffer.specs.Settling.{AreSettled}
use Rattle.disk_buffer.proofs.Settled.{unready}
use Rattle.disk_buffer.proofs.settling.settle_rows.Given as goal

abbrev pub invariant-loop-row : goal.invariant-loop-row
invariant-loop-row l = (length l.forest.trees ≡ 1) × AreSettled l.at (items_in l.initial.forest.trees 0) (items_in l.forest.trees 0) × (l.initial.forest.room ≤ l.forest.room)

abbrev pub decreases-loop-row : goal.decreases-loop-row
decreases-loop-row l = unready (items_in l.forest.trees 0)
