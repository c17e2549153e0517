use Rattle.std.proofs.Common.{◌∙◌, sym}
use Rattle.sum_trees.proofs.Turns.{root_forks, fork_moves}
use Rattle.sum_trees.proofs.balance.lean_left.Goals as goal

pub raise_right-requires : goal.raise_right-requires
raise_right-requires g c = root_forks g.T.Summed.sums c.args.nodes.now c.args.at c.in-Some.node c.requires (sym c.node_of.ensures ∙ c.in-Some.is)

pub returns-in-Some : goal.returns-in-Some
returns-in-Some g c = fork_moves g.T.Summed.sums c.args.nodes.now c.raise_right.new.nodes c.args.at c.raise_right.result c.in-Some.node (sym c.node_of.ensures ∙ c.in-Some.is) c.raise_right.ensures
