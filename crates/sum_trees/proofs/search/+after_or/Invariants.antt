use Rattle.sum_trees.specs.Nodes.{height_at}
use Rattle.sum_trees.proofs.search.+after_or.Given as goal

abbrev pub decreases-after_or : goal.decreases-after_or
decreases-after_or g l = height_at l.nodes.now l.root
