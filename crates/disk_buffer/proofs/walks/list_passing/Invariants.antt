use Rattle.std.proofs.Common.{◌≡◌, ◌≤◌, ◌++◌, length}
use Rattle.part_model.specs.Held.{numbers, prefix_of}
use Rattle.sum_trees.specs.Forests.{items_in}
use Rattle.disk_buffer.specs.Walks.{ended_by, rest_from}
use Rattle.disk_buffer.proofs.walks.list_passing.Given as goal

abbrev pub invariant-loop-lacking : goal.invariant-loop-lacking
invariant-loop-lacking l =
    (l.out.items ++ numbers (prefix_of l.lacking (ended_by l.at (rest_from l.wanted (items_in l.forest.trees 0) l.next))) ≡ l.initial.out.items ++ numbers (prefix_of l.initial.lacking (ended_by l.at (rest_from l.wanted (items_in l.forest.trees 0) l.initial.next))))
    × (length (prefix_of l.lacking (ended_by l.at (rest_from l.wanted (items_in l.forest.trees 0) l.next))) ≤ l.out.room)

abbrev pub decreases-loop-lacking : goal.decreases-loop-lacking
decreases-loop-lacking l = length (rest_from l.wanted (items_in l.forest.trees 0) l.next)
