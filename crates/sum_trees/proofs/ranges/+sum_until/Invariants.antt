use Rattle.sum_trees.specs.Nodes.{height_at}
use Rattle.sum_trees.proofs.ranges.+sum_until.Given as goal

abbrev pub decreases-sum_until : goal.decreases-sum_until
decreases-sum_until g l = height_at l.nodes.now l.root
