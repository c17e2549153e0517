use Rattle.sum_trees.specs.Nodes.{height_at}
use Rattle.sum_trees.proofs.change.+enter.Given as goal

abbrev pub decreases-enter : goal.decreases-enter
decreases-enter g l = height_at l.nodes.now l.root
