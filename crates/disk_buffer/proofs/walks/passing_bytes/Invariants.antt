use Rattle.std.proofs.Common.{◌≡◌, ◌+◌, length}
use Rattle.part_model.specs.Held.{bytes_of}
use Rattle.sum_trees.specs.Forests.{items_in}
use Rattle.disk_buffer.specs.Walks.{ended_by, rest_from, sought}
use Rattle.disk_buffer.proofs.walks.passing_bytes.Given as goal

abbrev pub invariant-loop-next : goal.invariant-loop-next
invariant-loop-next l = l.total + bytes_of (ended_by l.wanted.at (rest_from l.wanted (items_in l.forest.trees 0) l.next)) ≡ bytes_of (ended_by l.wanted.at (sought l.wanted (items_in l.forest.trees 0)))

abbrev pub decreases-loop-next : goal.decreases-loop-next
decreases-loop-next l = length (rest_from l.wanted (items_in l.forest.trees 0) l.next)
