use Rattle.sum_trees.specs.Nodes.{height_at}
use Rattle.sum_trees.proofs.search.+place_like.Given as goal

abbrev pub decreases-place_like : goal.decreases-place_like
decreases-place_like g l = height_at l.nodes.now l.root
