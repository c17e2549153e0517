use Rattle.std.proofs.Common.{◌≡◌, ◌+◌, length}
use Rattle.part_model.specs.Held.{prefix_of}
use Rattle.sum_trees.specs.Forests.{items_in}
use Rattle.disk_buffer.specs.Walks.{ended_by, rest_from}
use Rattle.disk_buffer.proofs.walks.count_passing.Given as goal

abbrev pub invariant-loop-taken : goal.invariant-loop-taken
invariant-loop-taken l =
    l.taken.count + length (prefix_of l.taken.lacking (ended_by l.at (rest_from l.wanted (items_in l.forest.trees 0) l.next))) ≡ length (prefix_of l.lacking (ended_by l.at (rest_from l.wanted (items_in l.forest.trees 0) l.initial.next)))

abbrev pub decreases-loop-taken : goal.decreases-loop-taken
decreases-loop-taken l = length (rest_from l.wanted (items_in l.forest.trees 0) l.next)
