use Rattle.sum_trees.specs.Nodes.{height_at}
use Rattle.sum_trees.proofs.search.+first_item.Given as goal

abbrev pub decreases-first_item : goal.decreases-first_item
decreases-first_item g l = height_at l.nodes.now l.root
