use Rattle.std.proofs.Common.{◌∙◌, ◌<◌, sym, arith}
use Rattle.sum_trees.specs.Nodes.{height_at}
use Rattle.sum_trees.proofs.Enters.{low_falls}
use Rattle.sum_trees.proofs.Cuts.{can_cut_left}
use Rattle.sum_trees.proofs.Searched.{first_none, first_root, first_left}
use Rattle.sum_trees.proofs.search.+first_item.Goals as goal

pub first_item-requires : goal.first_item-requires
first_item-requires g t c κs within =
    let falls : height_at c.args.nodes.now c.in-Some.node.left < height_at c.args.nodes.now c.args.root = low_falls g.T.Summed.sums c.args.nodes.now c.args.root c.in-Some.node c.requires.0 (sym c.node_of.ensures ∙ c.in-Some.is) c.requires.1.stands in
    (omega arith, (within.0, (within.1, can_cut_left g.T.Summed.sums c.args.nodes.now c.args.root c.in-Some.node (sym c.node_of.ensures ∙ c.in-Some.is) c.requires)))

pub returns-in-None : goal.returns-in-None
returns-in-None g t c = first_none g.T.Summed.sums c.args.nodes.now c.args.root (sym c.node_of.ensures ∙ c.in-None.is)

pub returns-in-None-first_item : goal.returns-in-None-first_item
returns-in-None-first_item g t c = first_root g.T.Summed.sums c.args.nodes.now c.args.root c.in-Some.node (sym c.node_of.ensures ∙ c.in-Some.is) c.in-None-first_item.ensures

pub returns-in-Some-first_item : goal.returns-in-Some-first_item
returns-in-Some-first_item g t c = first_left g.T.Summed.sums c.args.nodes.now c.args.root c.in-Some.node c.in-Some-first_item.first (sym c.node_of.ensures ∙ c.in-Some.is) c.in-Some-first_item.ensures
