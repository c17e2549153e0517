use Rattle.std.proofs.Common.{◌∙◌, ◌<◌, sym, arith}
use Rattle.sum_trees.specs.Nodes.{height_at}
use Rattle.sum_trees.proofs.Enters.{started, can_left, can_right, can_fork_left, can_fork_right, left_held, right_held, entered_left, entered_right, low_falls, high_falls}
use Rattle.sum_trees.proofs.change.+enter.Goals as goal

pub enter-left-requires : goal.enter-left-requires
enter-left-requires g t c κs within =
    let falls : height_at c.args.nodes.now c.in-Some.node.left < height_at c.args.nodes.now c.args.root = low_falls g.T.Summed.sums c.args.nodes.now c.args.root c.in-Some.node c.requires.0 (sym c.node_of.ensures ∙ c.in-Some.is) c.requires.1.stands in
    (omega arith, (within.0, (within.1, can_left g.T.Summed.sums g.T.Summed.before c.args.nodes.now c.args.root c.args.at c.args.item.now c.in-Some.node (sym c.node_of.ensures ∙ c.in-Some.is) c.requires)))

pub settle-requires : goal.settle-requires
settle-requires g t c = (c.in-Some.node, left_held g.T.Summed.sums g.T.Summed.before c.args.nodes.now c.enter-left.new.nodes c.args.root c.args.at c.args.item.now c.in-Some.node c.enter-left.result (sym c.node_of.ensures ∙ c.in-Some.is) (sym c.is_before.ensures ∙ c.if-is_before.true) c.requires c.enter-left.ensures, can_fork_left g.T.Summed.sums g.T.Summed.before c.args.nodes.now c.enter-left.new.nodes c.args.root c.args.at c.args.item.now c.in-Some.node c.enter-left.result (sym c.node_of.ensures ∙ c.in-Some.is) (sym c.is_before.ensures ∙ c.if-is_before.true) c.requires c.enter-left.ensures)

pub returns-then-is_before : goal.returns-then-is_before
returns-then-is_before g t c = entered_left g.T.Summed.sums g.T.Summed.before c.args.nodes.now c.enter-left.new.nodes c.settle.new.nodes c.args.root c.args.at c.args.item.now c.in-Some.node c.enter-left.result c.settle.result (sym c.node_of.ensures ∙ c.in-Some.is) (sym c.is_before.ensures ∙ c.if-is_before.true) c.enter-left.ensures (c.settle.ensures c.in-Some.node (left_held g.T.Summed.sums g.T.Summed.before c.args.nodes.now c.enter-left.new.nodes c.args.root c.args.at c.args.item.now c.in-Some.node c.enter-left.result (sym c.node_of.ensures ∙ c.in-Some.is) (sym c.is_before.ensures ∙ c.if-is_before.true) c.requires c.enter-left.ensures))

pub enter-right-requires : goal.enter-right-requires
enter-right-requires g t c κs within =
    let falls : height_at c.args.nodes.now c.in-Some.node.right < height_at c.args.nodes.now c.args.root = high_falls g.T.Summed.sums c.args.nodes.now c.args.root c.in-Some.node c.requires.0 (sym c.node_of.ensures ∙ c.in-Some.is) c.requires.1.stands in
    (omega arith, (within.0, (within.1, can_right g.T.Summed.sums g.T.Summed.before c.args.nodes.now c.args.root c.args.at c.args.item.now c.in-Some.node (sym c.node_of.ensures ∙ c.in-Some.is) c.requires)))

pub settle-requires-in-Some : goal.settle-requires-in-Some
settle-requires-in-Some g t c = (c.in-Some.node, right_held g.T.Summed.sums (record { one_way = g.met.T.Summed.one_way; splits = g.met.T.Summed.splits }) c.args.nodes.now c.enter-right.new.nodes c.args.root c.args.at c.args.item.now c.in-Some.node c.enter-right.result (sym c.node_of.ensures ∙ c.in-Some.is) (sym c.is_before.ensures ∙ c.if-is_before.false) c.requires c.enter-right.ensures, can_fork_right g.T.Summed.sums (record { one_way = g.met.T.Summed.one_way; splits = g.met.T.Summed.splits }) c.args.nodes.now c.enter-right.new.nodes c.args.root c.args.at c.args.item.now c.in-Some.node c.enter-right.result (sym c.node_of.ensures ∙ c.in-Some.is) (sym c.is_before.ensures ∙ c.if-is_before.false) c.requires c.enter-right.ensures)

pub returns-in-None : goal.returns-in-None
returns-in-None g t c = started g.T.Summed.sums g.T.Summed.before c.args.nodes.now c.fork.new.nodes c.args.root c.args.at c.args.item.now (sym c.node_of.ensures ∙ c.in-None.is) c.fork.ensures

pub returns-else-is_before : goal.returns-else-is_before
returns-else-is_before g t c = entered_right g.T.Summed.sums (record { one_way = g.met.T.Summed.one_way; splits = g.met.T.Summed.splits }) c.args.nodes.now c.enter-right.new.nodes c.settle-in-Some.new.nodes c.args.root c.args.at c.args.item.now c.in-Some.node c.enter-right.result c.settle-in-Some.result (sym c.node_of.ensures ∙ c.in-Some.is) (sym c.is_before.ensures ∙ c.if-is_before.false) c.enter-right.ensures (c.settle-in-Some.ensures c.in-Some.node (right_held g.T.Summed.sums (record { one_way = g.met.T.Summed.one_way; splits = g.met.T.Summed.splits }) c.args.nodes.now c.enter-right.new.nodes c.args.root c.args.at c.args.item.now c.in-Some.node c.enter-right.result (sym c.node_of.ensures ∙ c.in-Some.is) (sym c.is_before.ensures ∙ c.if-is_before.false) c.requires c.enter-right.ensures))
