use Rattle.sum_trees.specs.Nodes.{height_at}
use Rattle.sum_trees.proofs.change.+set_like.Given as goal

abbrev pub decreases-set_like : goal.decreases-set_like
decreases-set_like g l = height_at l.nodes.now l.root
