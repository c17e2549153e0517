use Rattle.sum_trees.specs.Nodes.{height_at}
use Rattle.sum_trees.proofs.ranges.+sum_from.Given as goal

abbrev pub decreases-sum_from : goal.decreases-sum_from
decreases-sum_from g l = height_at l.nodes.now l.root
