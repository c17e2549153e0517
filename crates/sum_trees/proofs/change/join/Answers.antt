use Rattle.sum_trees.proofs.Cuts.{join_root, join_settles, joined_none, joined_some}
use Rattle.sum_trees.proofs.change.join.Goals as goal

pub cut_first-requires : goal.cut_first-requires
cut_first-requires g c = join_root g.T.Summed.sums c.args.nodes.now c.args.left c.args.right c.requires

pub turn-requires : goal.turn-requires
turn-requires g c = join_settles g.T.Summed.sums c.args.nodes.now c.cut_first.new.nodes c.args.left c.args.right c.in-Some.cut c.requires c.in-Some.ensures

pub returns-in-None : goal.returns-in-None
returns-in-None g c = joined_none g.T.Summed.sums c.args.nodes.now c.cut_first.new.nodes c.args.left c.args.right c.in-None.ensures

pub returns-in-Some : goal.returns-in-Some
returns-in-Some g c = joined_some g.T.Summed.sums c.args.nodes.now c.cut_first.new.nodes c.turn.new.nodes c.args.left c.args.right c.turn.result c.in-Some.cut c.in-Some.ensures c.turn.ensures
