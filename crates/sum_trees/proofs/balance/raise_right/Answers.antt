use Rattle.std.proofs.Common.{◌∙◌, sym}
use Rattle.sum_trees.proofs.Turns.{can_right_first, can_right_second, right_on_top}
use Rattle.sum_trees.proofs.balance.raise_right.Goals as goal

pub fork-requires-in-Some : goal.fork-requires-in-Some
fork-requires-in-Some g c = can_right_first g.T.Summed.sums c.args.nodes.now c.args.at c.args.item c.args.left c.args.right c.in-Some.top (sym c.node_of.ensures ∙ c.in-Some.is) c.requires

pub fork-requires-in-Some-2 : goal.fork-requires-in-Some-2
fork-requires-in-Some-2 g c = can_right_second g.T.Summed.sums c.args.nodes.now c.fork-in-Some.new.nodes c.args.at c.args.item c.args.left c.args.right c.in-Some.top (sym c.node_of.ensures ∙ c.in-Some.is) c.requires c.fork-in-Some.ensures

pub returns-in-Some : goal.returns-in-Some
returns-in-Some g c = right_on_top g.T.Summed.sums c.args.nodes.now c.fork-in-Some.new.nodes c.fork-in-Some-2.new.nodes c.args.at c.args.item c.args.left c.args.right c.in-Some.top (sym c.node_of.ensures ∙ c.in-Some.is) c.fork-in-Some.ensures c.fork-in-Some-2.ensures
