use Rattle.std.proofs.Common.{◌∙◌, ◌<◌, sym, arith}
use Rattle.sum_trees.specs.Nodes.{height_at}
use Rattle.sum_trees.proofs.Enters.{low_falls}
use Rattle.sum_trees.proofs.Cuts.{can_cut_left, none_first, root_first, can_fork_first, first_held, left_first_cut}
use Rattle.sum_trees.proofs.change.+cut_first.Goals as goal

pub cut_first-requires : goal.cut_first-requires
cut_first-requires g t c κs within =
    let falls : height_at c.args.nodes.now c.in-Some.node.left < height_at c.args.nodes.now c.args.root = low_falls g.T.Summed.sums c.args.nodes.now c.args.root c.in-Some.node c.requires.0 (sym c.node_of.ensures ∙ c.in-Some.is) c.requires.1.stands in
    (omega arith, (within.0, (within.1, can_cut_left g.T.Summed.sums c.args.nodes.now c.args.root c.in-Some.node (sym c.node_of.ensures ∙ c.in-Some.is) c.requires)))

pub settle-rest-requires : goal.settle-rest-requires
settle-rest-requires g t c = (c.in-Some.node, first_held g.T.Summed.sums c.args.nodes.now c.cut_first.new.nodes c.args.root c.in-Some.node c.in-Some-cut_first.cut (sym c.node_of.ensures ∙ c.in-Some.is) c.requires c.in-Some-cut_first.ensures, can_fork_first g.T.Summed.sums c.args.nodes.now c.cut_first.new.nodes c.args.root c.in-Some.node c.in-Some-cut_first.cut (sym c.node_of.ensures ∙ c.in-Some.is) c.requires c.in-Some-cut_first.ensures)

pub returns-in-None : goal.returns-in-None
returns-in-None g t c = none_first g.T.Summed.sums c.args.nodes.now c.args.root (sym c.node_of.ensures ∙ c.in-None.is)

pub returns-in-None-cut_first : goal.returns-in-None-cut_first
returns-in-None-cut_first g t c = root_first g.T.Summed.sums c.args.nodes.now c.cut_first.new.nodes c.args.root c.in-Some.node (sym c.node_of.ensures ∙ c.in-Some.is) c.in-None-cut_first.ensures

pub returns-in-Some-cut_first : goal.returns-in-Some-cut_first
returns-in-Some-cut_first g t c = left_first_cut g.T.Summed.sums c.args.nodes.now c.cut_first.new.nodes c.settle-rest.new.nodes c.args.root c.in-Some.node c.in-Some-cut_first.cut c.settle-rest.result (sym c.node_of.ensures ∙ c.in-Some.is) c.in-Some-cut_first.ensures (c.settle-rest.ensures c.in-Some.node (first_held g.T.Summed.sums c.args.nodes.now c.cut_first.new.nodes c.args.root c.in-Some.node c.in-Some-cut_first.cut (sym c.node_of.ensures ∙ c.in-Some.is) c.requires c.in-Some-cut_first.ensures))
