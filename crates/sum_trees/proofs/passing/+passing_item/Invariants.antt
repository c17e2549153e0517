use Rattle.sum_trees.specs.Nodes.{height_at}
use Rattle.sum_trees.proofs.passing.+passing_item.Given as goal

abbrev pub decreases-passing_item : goal.decreases-passing_item
decreases-passing_item g l = height_at l.nodes.now l.root
