use Rattle.sum_trees.specs.Nodes.{height_at}
use Rattle.sum_trees.proofs.ranges.+sum_of_range.Given as goal

abbrev pub decreases-sum_of_range : goal.decreases-sum_of_range
decreases-sum_of_range g l = height_at l.nodes.now l.root
