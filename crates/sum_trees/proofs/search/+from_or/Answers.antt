use Rattle.std.proofs.Common.{◌∙◌, ◌<◌, sym, ap, arith}
use Rattle.std.specs.Prelude.{not}
use Rattle.sum_trees.specs.Nodes.{height_at, item_at}
use Rattle.sum_trees.proofs.Orders.{rising_from}
use Rattle.sum_trees.proofs.Enters.{low_falls, high_falls}
use Rattle.sum_trees.proofs.Cuts.{can_cut_left, can_cut_right}
use Rattle.sum_trees.proofs.Searched.{or_nowhere, or_high, or_low}
use Rattle.sum_trees.proofs.search.+from_or.Goals as goal

pub from_or-requires : goal.from_or-requires
from_or-requires g t c κs within =
    let falls : height_at c.args.nodes.now c.in-Some.node.right < height_at c.args.nodes.now c.args.root = high_falls g.T.Summed.sums c.args.nodes.now c.args.root c.in-Some.node c.requires.0 (sym c.node_of.ensures ∙ c.in-Some.is) c.requires.1.stands in
    (omega arith, (within.0, (within.1, can_cut_right g.T.Summed.sums c.args.nodes.now c.args.root c.in-Some.node (sym c.node_of.ensures ∙ c.in-Some.is) c.requires)))

pub returns-in-None : goal.returns-in-None
returns-in-None g t c = or_nowhere g.T.Summed.sums g.T.Summed.before (λ y. not (g.T.Summed.before y c.args.item.now)) c.args.nodes.now c.args.root (item_at c.args.nodes.now c.args.found) (sym c.node_of.ensures ∙ c.in-None.is)

pub returns-then-is_before : goal.returns-then-is_before
returns-then-is_before g t c = or_high g.T.Summed.sums g.T.Summed.before (λ y. not (g.T.Summed.before y c.args.item.now)) (rising_from (record { one_way = g.met.T.Summed.one_way; splits = g.met.T.Summed.splits }) c.args.item.now) c.args.nodes.now c.args.root c.in-Some.node (item_at c.args.nodes.now c.args.found) (item_at c.args.nodes.now c.from_or.result) (sym c.node_of.ensures ∙ c.in-Some.is) (ap not (sym c.is_before.ensures ∙ c.if-is_before.true)) c.from_or.ensures

pub from_or-requires-in-Some : goal.from_or-requires-in-Some
from_or-requires-in-Some g t c κs within =
    let falls : height_at c.args.nodes.now c.in-Some.node.left < height_at c.args.nodes.now c.args.root = low_falls g.T.Summed.sums c.args.nodes.now c.args.root c.in-Some.node c.requires.0 (sym c.node_of.ensures ∙ c.in-Some.is) c.requires.1.stands in
    (omega arith, (within.0, (within.1, can_cut_left g.T.Summed.sums c.args.nodes.now c.args.root c.in-Some.node (sym c.node_of.ensures ∙ c.in-Some.is) c.requires)))

pub returns-else-is_before : goal.returns-else-is_before
returns-else-is_before g t c = or_low g.T.Summed.sums g.T.Summed.before (λ y. not (g.T.Summed.before y c.args.item.now)) c.args.nodes.now c.args.root c.in-Some.node (item_at c.args.nodes.now c.args.found) (item_at c.args.nodes.now c.from_or-in-Some.result) (sym c.node_of.ensures ∙ c.in-Some.is) (ap not (sym c.is_before.ensures ∙ c.if-is_before.false)) c.from_or-in-Some.ensures
