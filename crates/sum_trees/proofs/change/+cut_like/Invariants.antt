use Rattle.sum_trees.specs.Nodes.{height_at}
use Rattle.sum_trees.proofs.change.+cut_like.Given as goal

abbrev pub decreases-cut_like : goal.decreases-cut_like
decreases-cut_like g l = height_at l.nodes.now l.root
