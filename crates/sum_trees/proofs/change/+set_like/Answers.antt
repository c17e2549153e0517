use Rattle.std.proofs.Common.{◌∙◌, ◌<◌, sym, arith}
use Rattle.sum_trees.specs.Nodes.{height_at}
use Rattle.sum_trees.proofs.Enters.{low_falls, high_falls}
use Rattle.sum_trees.proofs.InPlace.{can_set_left, can_set_right, can_fork_left_set, can_fork_right_set, can_fork_here, set_left, set_right, set_at_root}
use Rattle.sum_trees.proofs.change.+set_like.Goals as goal

pub set_like-requires : goal.set_like-requires
set_like-requires g t c κs within =
    let falls : height_at c.args.nodes.now c.in-Some.node.left < height_at c.args.nodes.now c.args.root = low_falls g.T.Summed.sums c.args.nodes.now c.args.root c.in-Some.node c.requires.0 (sym c.node_of.ensures ∙ c.in-Some.is) c.requires.1.stands in
    (omega arith, (within.0, (within.1, can_set_left g.T.Summed.sums g.T.Summed.before c.args.nodes.now c.args.root c.in-Some.node (sym c.node_of.ensures ∙ c.in-Some.is) c.requires)))

pub fork-requires : goal.fork-requires
fork-requires g t c = can_fork_left_set g.T.Summed.sums (record { one_way = g.met.T.Summed.one_way; splits = g.met.T.Summed.splits }) c.args.item.now c.args.nodes.now c.set_like.new.nodes c.args.root c.in-Some.node (sym c.node_of.ensures ∙ c.in-Some.is) (sym c.is_before.ensures ∙ c.if-is_before.true) c.requires c.set_like.ensures

pub returns-then-is_before : goal.returns-then-is_before
returns-then-is_before g t c = set_left g.T.Summed.sums (record { one_way = g.met.T.Summed.one_way; splits = g.met.T.Summed.splits }) c.args.item.now c.args.nodes.now c.set_like.new.nodes c.fork.new.nodes c.args.root c.in-Some.node (sym c.node_of.ensures ∙ c.in-Some.is) (sym c.is_before.ensures ∙ c.if-is_before.true) c.set_like.ensures c.fork.ensures

pub set_like-requires-then-is_before-2 : goal.set_like-requires-then-is_before-2
set_like-requires-then-is_before-2 g t c κs within =
    let falls : height_at c.args.nodes.now c.in-Some.node.right < height_at c.args.nodes.now c.args.root = high_falls g.T.Summed.sums c.args.nodes.now c.args.root c.in-Some.node c.requires.0 (sym c.node_of.ensures ∙ c.in-Some.is) c.requires.1.stands in
    (omega arith, (within.0, (within.1, can_set_right g.T.Summed.sums g.T.Summed.before c.args.nodes.now c.args.root c.in-Some.node (sym c.node_of.ensures ∙ c.in-Some.is) c.requires)))

pub fork-requires-then-is_before-2 : goal.fork-requires-then-is_before-2
fork-requires-then-is_before-2 g t c = can_fork_right_set g.T.Summed.sums (record { one_way = g.met.T.Summed.one_way; splits = g.met.T.Summed.splits }) c.args.item.now c.args.nodes.now c.set_like-then-is_before-2.new.nodes c.args.root c.in-Some.node (sym c.node_of.ensures ∙ c.in-Some.is) (sym c.is_before-2.ensures ∙ c.if-is_before-2.true) c.requires c.set_like-then-is_before-2.ensures

pub returns-then-is_before-2 : goal.returns-then-is_before-2
returns-then-is_before-2 g t c = set_right g.T.Summed.sums (record { one_way = g.met.T.Summed.one_way; splits = g.met.T.Summed.splits }) c.args.item.now c.args.nodes.now c.set_like-then-is_before-2.new.nodes c.fork-then-is_before-2.new.nodes c.args.root c.in-Some.node (sym c.node_of.ensures ∙ c.in-Some.is) (sym c.is_before-2.ensures ∙ c.if-is_before-2.true) c.set_like-then-is_before-2.ensures c.fork-then-is_before-2.ensures

pub fork-requires-2 : goal.fork-requires-2
fork-requires-2 g t c = can_fork_here g.T.Summed.sums (record { one_way = g.met.T.Summed.one_way; splits = g.met.T.Summed.splits }) c.args.item.now c.args.nodes.now c.args.root c.in-Some.node (sym c.node_of.ensures ∙ c.in-Some.is) (sym c.is_before.ensures ∙ c.if-is_before.false) (sym c.is_before-2.ensures ∙ c.if-is_before-2.false) c.requires

pub returns : goal.returns
returns g t c = set_at_root g.T.Summed.sums (record { one_way = g.met.T.Summed.one_way; splits = g.met.T.Summed.splits }) c.args.item.now c.args.nodes.now c.fork-2.new.nodes c.args.root c.in-Some.node (sym c.node_of.ensures ∙ c.in-Some.is) (sym c.is_before.ensures ∙ c.if-is_before.false) (sym c.is_before-2.ensures ∙ c.if-is_before-2.false) c.fork-2.ensures
