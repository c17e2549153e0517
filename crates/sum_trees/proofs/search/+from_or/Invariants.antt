use Rattle.sum_trees.specs.Nodes.{height_at}
use Rattle.sum_trees.proofs.search.+from_or.Given as goal

abbrev pub decreases-from_or : goal.decreases-from_or
decreases-from_or g l = height_at l.nodes.now l.root
