use Rattle.sum_trees.specs.Nodes.{height_at}
use Rattle.sum_trees.proofs.passing.+passing_after.Given as goal

abbrev pub decreases-passing_after : goal.decreases-passing_after
decreases-passing_after g l = height_at l.nodes.now l.root
