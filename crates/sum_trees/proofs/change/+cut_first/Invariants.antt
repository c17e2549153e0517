use Rattle.sum_trees.specs.Nodes.{height_at}
use Rattle.sum_trees.proofs.change.+cut_first.Given as goal

abbrev pub decreases-cut_first : goal.decreases-cut_first
decreases-cut_first g l = height_at l.nodes.now l.root
