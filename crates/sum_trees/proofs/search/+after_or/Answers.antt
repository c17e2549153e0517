use Rattle.std.proofs.Common.{◌∙◌, ◌<◌, sym, arith}
use Rattle.sum_trees.specs.Nodes.{height_at, item_at}
use Rattle.sum_trees.proofs.Orders.{rising_after}
use Rattle.sum_trees.proofs.Enters.{low_falls, high_falls}
use Rattle.sum_trees.proofs.Cuts.{can_cut_left, can_cut_right}
use Rattle.sum_trees.proofs.Searched.{or_nowhere, or_high, or_low}
use Rattle.sum_trees.proofs.search.+after_or.Goals as goal

pub after_or-requires : goal.after_or-requires
after_or-requires g t c κs within =
    let falls : height_at c.args.nodes.now c.in-Some.node.left < height_at c.args.nodes.now c.args.root = low_falls g.T.Summed.sums c.args.nodes.now c.args.root c.in-Some.node c.requires.0 (sym c.node_of.ensures ∙ c.in-Some.is) c.requires.1.stands in
    (omega arith, (within.0, (within.1, can_cut_left g.T.Summed.sums c.args.nodes.now c.args.root c.in-Some.node (sym c.node_of.ensures ∙ c.in-Some.is) c.requires)))

pub returns-in-None : goal.returns-in-None
returns-in-None g t c = or_nowhere g.T.Summed.sums g.T.Summed.before (g.T.Summed.before c.args.item.now) c.args.nodes.now c.args.root (item_at c.args.nodes.now c.args.found) (sym c.node_of.ensures ∙ c.in-None.is)

pub returns-then-is_before : goal.returns-then-is_before
returns-then-is_before g t c = or_low g.T.Summed.sums g.T.Summed.before (g.T.Summed.before c.args.item.now) c.args.nodes.now c.args.root c.in-Some.node (item_at c.args.nodes.now c.args.found) (item_at c.args.nodes.now c.after_or.result) (sym c.node_of.ensures ∙ c.in-Some.is) (sym c.is_before.ensures ∙ c.if-is_before.true) c.after_or.ensures

pub after_or-requires-in-Some : goal.after_or-requires-in-Some
after_or-requires-in-Some g t c κs within =
    let falls : height_at c.args.nodes.now c.in-Some.node.right < height_at c.args.nodes.now c.args.root = high_falls g.T.Summed.sums c.args.nodes.now c.args.root c.in-Some.node c.requires.0 (sym c.node_of.ensures ∙ c.in-Some.is) c.requires.1.stands in
    (omega arith, (within.0, (within.1, can_cut_right g.T.Summed.sums c.args.nodes.now c.args.root c.in-Some.node (sym c.node_of.ensures ∙ c.in-Some.is) c.requires)))

pub returns-else-is_before : goal.returns-else-is_before
returns-else-is_before g t c = or_high g.T.Summed.sums g.T.Summed.before (g.T.Summed.before c.args.item.now) (rising_after (record { one_way = g.met.T.Summed.one_way; splits = g.met.T.Summed.splits }) c.args.item.now) c.args.nodes.now c.args.root c.in-Some.node (item_at c.args.nodes.now c.args.found) (item_at c.args.nodes.now c.after_or-in-Some.result) (sym c.node_of.ensures ∙ c.in-Some.is) (sym c.is_before.ensures ∙ c.if-is_before.false) c.after_or-in-Some.ensures
