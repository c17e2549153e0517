use Rattle.std.proofs.Common.{◌∙◌, sym}
use Rattle.sum_trees.proofs.Turns.{can_here, settled}
use Rattle.sum_trees.proofs.balance.turn.Goals as goal

pub balance-requires : goal.balance-requires
balance-requires g c = can_here g.T.Summed.sums c.args.nodes.now c.args.at c.in-Some.node c.args.left c.args.right c.requires (sym c.node_of.ensures ∙ c.in-Some.is)

pub returns : goal.returns
returns g c = settled g.T.Summed.sums c.args.nodes.now c.balance.new.nodes c.args.at c.in-Some.node c.args.left c.args.right c.balance.result (sym c.node_of.ensures ∙ c.in-Some.is) c.balance.ensures
