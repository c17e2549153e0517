use Rattle.std.proofs.Common.{◌∙◌, sym}
use Rattle.sum_trees.proofs.Turns.{can_here, settled}
use Rattle.sum_trees.proofs.nodes.lay.Goals as goal

pub fork-requires : goal.fork-requires
fork-requires g c = can_here g.T.Summed.sums c.args.nodes.now c.args.at c.in-Some.node c.args.left c.args.right c.requires (sym c.node_of.ensures ∙ c.in-Some.is)

pub returns : goal.returns
returns g c = settled g.T.Summed.sums c.args.nodes.now c.fork.new.nodes c.args.at c.in-Some.node c.args.left c.args.right c.args.at (sym c.node_of.ensures ∙ c.in-Some.is) c.fork.ensures
